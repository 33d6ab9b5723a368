-- Whether a protection verifies is settled by computing. So no clause needs to say that it does or doesn't.
use Rattle.std.proofs.Common.{◌≡◌, ℕ, zero, suc, ◌+◌, ◌*◌, ◌^◌, ◌≤◌, ◌⊎◌, Bool, true, false, List, length, take, drop, Option, Some, None, refl, sym, ap, subst, ◌∙◌, inl, inr, ⊎_elim, arith}
use Rattle.std.specs.Prelude.{◌==◌, MatchOption}
use Rattle.std.specs.Bool.{Decides}
use Rattle.std.specs.Str.{bytes_eq}
use Rattle.std.proofs.lemmas.Bool.Decides.{Decides-eqb, leb_tells}
use Rattle.std.proofs.lemmas.Slice.Eq.{bytes_eq-Decides}
use Rattle.std.proofs.lemmas.Option.{none-some, same_Some}
use Rattle.lms_params.specs.Parameters.{OtsRow, ots_row, tree_height}
use Rattle.lms_tree.specs.Verifies.{u32_at, HasForm, LmsOkIn, LmsOkFor, LmsOk}
use Rattle.asn_types.specs.Algorithm.{Algorithm}
use Rattle.pbmac.specs.Mac.{mac_of}
use Rattle.pbmac.specs.Params.{params_at}
use Rattle.pbmac.specs.declared.params.MacParams.{MacParams}
use Rattle.pbmac_grammar.specs.Pbmac1.{IsPbmac1}
use Rattle.pbmac_grammar.proofs.ParamsLemmas.{params_are_spelled}
use Rattle.pki_message.specs.Message.{MessageForm}
use Rattle.protect.specs.Algorithms.{hss_lms}
use Rattle.protect.specs.Holds.{IsMacked, IsSigned, Protects, HoldsOver, ProtectionHolds}
use Rattle.protect.specs.declared.key.Key.{Key}
use Rattle.protect.specs.declared.key.Key.TheVariants as keys
use Rattle.hss_sig.specs.Hss.{signature_size, Leads, LevelsOk, HssOk}

-- it holds, or it doesn't
abbrev pub Known : Type 0 → Type 0
Known P = P ⊎ (P → ⊥)

known_by : {P : Type 0} (r : Bool) → Decides r P → Known P
known_by true d = inl (d.0 refl)
known_by false d = inr (λ p. let e : false ≡ true = d.1 p in cc)

pub same_known : (a b : ℕ) → Known (a ≡ b)
same_known a b = known_by (a == b) (Decides-eqb a b)

pub bytes_known : (a b : List ℕ) → Known (a ≡ b)
bytes_known a b = known_by (bytes_eq a b) (bytes_eq-Decides a b)

pub le_known : (a b : ℕ) → Known (a ≤ b)
le_known a b = ⊎_elim (λ t. inl t.1) (λ f. inr (λ le. omega arith)) (leb_tells a b)

pub none_known : Known ⊥
none_known = inr (λ h. h)

both_known : {P Q : Type 0} → Known P → Known Q → Known (P × Q)
both_known (inl p) (inl q) = inl (p, q)
both_known (inl p) (inr f) = inr (λ h. f h.1)
both_known (inr f) q = inr (λ h. f h.0)

pub known_as : {P Q : Type 0} → (P → Q) → (Q → P) → Known P → Known Q
known_as to from (inl p) = inl (to p)
known_as to from (inr f) = inr (λ q. f (from q))

matched_known : {X : Type 0} (o : Option X) (P : X → Type 0) → ((x : X) → Known (P x)) → Known (MatchOption o ⊥ P)
matched_known None P each = none_known
matched_known (Some x) P each = each x

-- ---- signatures (RFC 8554, 5.4.2 and 6.3)

form_known : (h : ℕ) (row : OtsRow) (key sig : List ℕ) → Known (HasForm h row key sig)
form_known h row key sig = known_as
    (λ (p : (length sig ≡ 44 + 32 * row.p + 32 * h) × (u32_at sig 4 ≡ u32_at key 4) × (u32_at sig (40 + 32 * row.p) ≡ u32_at key 0) × (suc (u32_at sig 0) ≤ 2 ^ h)). record { size = p.0; ots_code = p.1; tree_code = p.2; leaf = p.3 })
    (λ f. (f.size, f.ots_code, f.tree_code, f.leaf))
    (known_as (λ (p : (length sig ≡ 44 + 32 * row.p + 32 * h) × ((u32_at sig 4 ≡ u32_at key 4) × ((u32_at sig (40 + 32 * row.p) ≡ u32_at key 0) × (suc (u32_at sig 0) ≤ 2 ^ h)))). (p.0, p.1.0, p.1.1.0, p.1.1.1)) (λ q. (q.0, (q.1, (q.2, q.3))))
    (both_known (same_known _ _) (both_known (same_known _ _) (both_known (same_known _ _) (le_known _ _)))))

lms_in_known : (h : ℕ) (row : OtsRow) (key text sig : List ℕ) → Known (LmsOkIn h row key text sig)
lms_in_known h row key text sig = both_known (form_known h row key sig) (bytes_known _ _)

lms_known : (key text sig : List ℕ) → Known (LmsOk key text sig)
lms_known key text sig = matched_known (tree_height (u32_at key 0)) (λ h. LmsOkFor h key text sig)
    (λ h. matched_known (ots_row (u32_at key 4)) (λ row. LmsOkIn h row key text sig) (λ row. lms_in_known h row key text sig))

levels_known : (n : ℕ) (text key octets : List ℕ) → Known (LevelsOk n text key octets)
levels_known zero text key octets = lms_known key text octets
levels_known (suc n) text key octets = matched_known (signature_size key) (λ k. Leads k (LevelsOk n text) key octets) (λ k. known_as
    (λ (p : (k + 56 ≤ length octets) × (LmsOk key (take 56 (drop k octets)) (take k octets) × LevelsOk n text (take 56 (drop k octets)) (drop (k + 56) octets))). record { room = p.0; signed = p.1.0; rest = p.1.1 })
    (λ f. (f.room, (f.signed, f.rest)))
    (both_known (le_known _ _) (both_known (lms_known key (take 56 (drop k octets)) (take k octets)) (levels_known n text (take 56 (drop k octets)) (drop (k + 56) octets)))))

pub hss_known : (key text sig : List ℕ) → Known (HssOk key text sig)
hss_known key text sig = known_as
    (λ (p : (length key ≡ 60) × ((1 ≤ u32_at key 0) × ((u32_at key 0 ≤ 8) × ((4 ≤ length sig) × ((u32_at sig 0 + 1 ≡ u32_at key 0) × LevelsOk (u32_at sig 0) text (drop 4 key) (drop 4 sig)))))).
    record { key_size = p.0; some = p.1.0; most = p.1.1.0; sig_size = p.1.1.1.0; same_levels = p.1.1.1.1.0; levels = p.1.1.1.1.1 })
    (λ f. (f.key_size, (f.some, (f.most, (f.sig_size, (f.same_levels, f.levels))))))
    (both_known (same_known _ _) (both_known (le_known _ _) (both_known (le_known _ _) (both_known (le_known _ _) (both_known (same_known _ _) (levels_known (u32_at sig 0) text (drop 4 key) (drop 4 sig)))))))

-- ---- MACs (RFC 8018, 7.1)

-- an algorithm has the parameters of one MAC at most
params_one : (a : Algorithm) (p q : MacParams) → params_at a ≡ Some p → IsPbmac1 a q.salt q.rounds → p ≡ q
params_one a p q e h = same_Some p q (sym e ∙ (params_are_spelled a q).1 h)

macked_with : (secret : List ℕ) (a : Algorithm) (part mac : List ℕ) (p : MacParams) → params_at a ≡ Some p → Known (mac ≡ mac_of secret p part) → Known (IsMacked secret a part mac)
macked_with secret a part mac p e (inl same) = inl (record { params = p; form = (params_are_spelled a p).0 e; valid = same })
macked_with secret a part mac p e (inr other) = inr (λ h. other (subst (λ (q : MacParams). mac ≡ mac_of secret q part) (sym (params_one a p h.params e h.form)) h.valid))

macked_by : (secret : List ℕ) (a : Algorithm) (part mac : List ℕ) (o : Option MacParams) → params_at a ≡ o → Known (IsMacked secret a part mac)
macked_by secret a part mac None e = inr (λ h. none-some h.params (sym e ∙ (params_are_spelled a h.params).1 h.form))
macked_by secret a part mac (Some p) e = macked_with secret a part mac p e (bytes_known mac (mac_of secret p part))

-- ---- algorithms and protections

options_known : (a b : Option (List ℕ)) → Known (a ≡ b)
options_known None None = inl refl
options_known None (Some y) = inr (λ e. none-some y e)
options_known (Some x) None = inr (λ e. none-some x (sym e))
options_known (Some x) (Some y) = known_as (ap Some) (same_Some x y) (bytes_known x y)

abbrev algorithm_with : List ℕ → Option (List ℕ) → Algorithm
algorithm_with oid params = record { oid = oid; params = params }

algorithms_known : (a b : Algorithm) → Known (a ≡ b)
algorithms_known a b = known_as
    (λ (p : (a.oid ≡ b.oid) × (a.params ≡ b.params)). ap (λ (oid : List ℕ). algorithm_with oid a.params) p.0 ∙ ap (algorithm_with b.oid) p.1)
    (λ e. (ap (λ (x : Algorithm). x.oid) e, ap (λ (x : Algorithm). x.params) e))
    (both_known (bytes_known a.oid b.oid) (options_known a.params b.params))

signed_known : (key : List ℕ) (a : Algorithm) (part sig : List ℕ) → Known (IsSigned key a part sig)
signed_known key a part sig = known_as (λ (p : (a ≡ hss_lms) × HssOk key part sig). record { form = p.0; valid = p.1 }) (λ h. (h.form, h.valid)) (both_known (algorithms_known a hss_lms) (hss_known key part sig))

protects_known : (key : Key) (a : Algorithm) (part octets : List ℕ) → Known (Protects key a part octets)
protects_known (keys.Mac secret) a part octets = macked_by secret a part octets (params_at a) refl
protects_known (keys.Lms key) a part octets = signed_known key a part octets

over_known : (key : Key) (a : Option Algorithm) (octets : Option (List ℕ)) (part : List ℕ) → Known (HoldsOver key a octets part)
over_known key None octets part = none_known
over_known key (Some a) None part = none_known
over_known key (Some a) (Some octets) part = protects_known key a part octets

pub protection_known : (key : Key) (m : MessageForm) → Known (ProtectionHolds key m)
protection_known key m = over_known key m.head.alg m.protection _
