-- The form of stamps, wishes, settings and credentials, and of each change by its kind.
use Rattle.std.proofs.Common.{◌≡◌, ℕ, zero, suc, ◌^◌, ◌<◌, List, [], ◌∷◌, ◌++◌, length, Some, refl, ap, subst, ◌∙◌, append_assoc, IsTrue}
use Rattle.std.specs.Prelude.{IfSome}
use Rattle.std.specs.List.{flat_map, AllByRecursion}
use Rattle.std.specs.Int.{w16, w32, w64}
use Rattle.deal_changes.specs.declared.change.Credential.{Credential}
use Rattle.deal_changes.specs.Spki.{is_spki, is_ca_name}
use Rattle.deal_changes.specs.Spelling as text
use Rattle.deal_changes.specs.Spelling.{u16, u32, u64, IsBlob, IsShort, IsTid, IsWho, IsListed, IsStamp, IsWish, AreSettings, IsCredential, AreCredentials}
use Rattle.deal_changes.specs.Reading.{◌>>=◌, octet_at, octets_at, number_at, coded_at, short_at, tid_at, blob_at, spki_at, name_at, leaf_at, kind_of, flags_of, rights_of, who_at, stamp_at, wish_at, settings_at, credential_at, credentials_at, list_at, numbers_at}
use Rattle.deal_changes.proofs.Forms.{IsBytes, bind_some, got, got_pair, Took, took_both, Nothing, IsRest, IsForm, fitting, seq, last, octet_form, octets_form}
use Rattle.deal_changes.proofs.PartForms.{u16_form, u32_form, u64_form, short_form, tid_form, blob_form, spki_form, name_form, kind_form, flags_form, rights_form, leaf_form, who_form}

pub stamp_form : IsForm stamp_at text.stamp IsStamp
unfolding stamp_at
stamp_form = fitting _ _ _ _ _
    (λ s h. record { tid = h.0; digest = h.1.0; who = h.1.1.0; sender = h.1.1.1.0; pvno = h.1.1.1.1.0; sender_nonce = h.1.1.1.1.1.0; words = h.1.1.1.1.1.1.0; time = h.1.1.1.1.1.1.1.0; leaf = h.1.1.1.1.1.1.1.1 })
    (λ s h. (h.tid, (h.digest, (h.who, (h.sender, (h.pvno, (h.sender_nonce, (h.words, (h.time, h.leaf)))))))))
    (seq (λ s. s.tid) tid_at text.short IsTid _ _ _ Nothing tid_form (λ tid.
    seq (λ s. s.digest) (octets_at 32) (λ o. o) (λ o. length o ≡ 32) _ _ _ _ (octets_form 32) (λ digest.
    seq (λ s. s.who) who_at text.who IsWho _ _ _ _ who_form (λ who.
    seq (λ s. s.sender) blob_at text.blob IsBlob _ _ _ _ blob_form (λ sender.
    seq (λ s. s.pvno) octet_at (λ n. n ∷ []) (λ n. n < 2 ^ 8) _ _ _ _ octet_form (λ pvno.
    seq (λ s. s.sender_nonce) short_at text.short IsShort _ _ _ _ short_form (λ nonce.
    seq (λ s. s.words) (octets_at 32) (λ o. o) (λ o. length o ≡ 32) _ _ _ _ (octets_form 32) (λ words.
    seq (λ s. s.time) (number_at w64) u64 (λ n. n < 2 ^ 64) _ _ _ _ u64_form (λ time.
    last (λ s. s.leaf) (λ leaf. record { tid = tid; digest = digest; who = who; sender = sender; pvno = pvno; sender_nonce = nonce; words = words; time = time; leaf = leaf }) leaf_at text.optional (λ o. IfSome o (λ l. l < 2 ^ 32)) _ leaf_form
    (λ l. (((((((((tt, refl), refl), refl), refl), refl), refl), refl), refl), refl))
    (λ s k. rw (← k.0.0.0.0.0.0.0.1, ← k.0.0.0.0.0.0.1, ← k.0.0.0.0.0.1, ← k.0.0.0.0.1, ← k.0.0.0.1, ← k.0.0.1, ← k.0.1, ← k.1)))))))))))

pub wish_form : IsForm wish_at text.wish IsWish
unfolding wish_at
wish_form = fitting _ _ _ _ _
    (λ w h. record { subject = h.0; spki = h.1.0.0; is_spki = h.1.0.1; exts = h.1.1.0 })
    (λ w h. (h.subject, ((h.spki, h.is_spki), (h.exts, tt))))
    (seq (λ w. w.subject) blob_at text.blob IsBlob _ _ _ Nothing blob_form (λ subject.
    seq (λ w. w.spki) spki_at text.blob (λ o. IsBlob o × IsTrue (is_spki o)) _ _ _ _ spki_form (λ spki.
    seq (λ w. w.exts) blob_at text.blob IsBlob _ _ _ _ blob_form (λ exts.
    last (λ w. (w.implicit, w.mods)) (λ f. record { subject = subject; spki = spki; exts = exts; implicit = f.0; mods = f.1 }) (coded_at flags_of) (λ f. text.flags f.0 f.1 ∷ []) Nothing _ flags_form
    (λ f. ((((tt, refl), refl), refl), refl)) (λ w k. rw (← k.0.0.1, ← k.0.1, ← k.1))))))

pub settings_form : IsForm settings_at text.settings AreSettings
unfolding settings_at
settings_form = fitting _ _ _ _ _
    (λ s h. record { time = h.0; name = h.1.0.0; is_ca_name = h.1.0.1; issue_key = h.1.1.0; reply_key = h.1.1.1.0; wait = h.1.1.1.1.0; skew = h.1.1.1.1.1.0; rounds = h.1.1.1.1.1.1.0; check_after = h.1.1.1.1.1.1.1.0; days = h.1.1.1.1.1.1.1.1 })
    (λ s h. (h.time, ((h.name, h.is_ca_name), (h.issue_key, (h.reply_key, (h.wait, (h.skew, (h.rounds, (h.check_after, h.days)))))))))
    (seq (λ s. s.time) (number_at w64) u64 (λ n. n < 2 ^ 64) _ _ _ Nothing u64_form (λ time.
    seq (λ s. s.name) name_at text.blob (λ o. IsBlob o × IsTrue (is_ca_name o)) _ _ _ _ name_form (λ name.
    seq (λ s. s.issue_key) (octets_at 60) (λ o. o) (λ o. length o ≡ 60) _ _ _ _ (octets_form 60) (λ issue.
    seq (λ s. s.reply_key) (octets_at 60) (λ o. o) (λ o. length o ≡ 60) _ _ _ _ (octets_form 60) (λ reply.
    seq (λ s. s.wait) (number_at w32) u32 (λ n. n < 2 ^ 32) _ _ _ _ u32_form (λ wait.
    seq (λ s. s.skew) (number_at w32) u32 (λ n. n < 2 ^ 32) _ _ _ _ u32_form (λ skew.
    seq (λ s. s.rounds) (number_at w32) u32 (λ n. n < 2 ^ 32) _ _ _ _ u32_form (λ rounds.
    seq (λ s. s.check_after) (number_at w32) u32 (λ n. n < 2 ^ 32) _ _ _ _ u32_form (λ check.
    last (λ s. s.days) (λ days. record { time = time; name = name; issue_key = issue; reply_key = reply; wait = wait; skew = skew; rounds = rounds; check_after = check; days = days }) (number_at w32) u32 (λ n. n < 2 ^ 32) _ u32_form
    (λ l. (((((((((tt, refl), refl), refl), refl), refl), refl), refl), refl), refl))
    (λ s k. rw (← k.0.0.0.0.0.0.0.1, ← k.0.0.0.0.0.0.1, ← k.0.0.0.0.0.1, ← k.0.0.0.0.1, ← k.0.0.0.1, ← k.0.0.1, ← k.0.1, ← k.1)))))))))))

credential_form : IsForm credential_at text.credential IsCredential
unfolding credential_at
credential_form = fitting _ _ _ _ _
    (λ c h. record { kid = h.1.0; material = h.1.1.0; rights = h.1.1.1 })
    (λ c h. (tt, (h.kid, (h.material, h.rights))))
    (seq (λ c. c.kind) (coded_at kind_of) (λ k. text.kind k ∷ []) Nothing _ _ _ Nothing kind_form (λ kind.
    seq (λ c. c.kid) short_at text.short IsShort _ _ _ _ short_form (λ kid.
    seq (λ c. c.material) short_at text.short IsShort _ _ _ _ short_form (λ material.
    last (λ c. c.rights) (λ rights. record { kind = kind; kid = kid; material = material; rights = rights }) (coded_at rights_of) (λ r. r ∷ []) (λ r. r < 32) _ rights_form
    (λ r. ((((tt, refl), refl), refl), refl)) (λ c k. rw (← k.0.0.1, ← k.0.1, ← k.1))))))

pub numbers_form : IsForm numbers_at (λ n. u64 n.0 ++ u32 n.1) (λ n. (n.0 < 2 ^ 64) × (n.1 < 2 ^ 32))
unfolding numbers_at
numbers_form = fitting _ _ _ _ _ (λ n h. h) (λ n h. h)
    (seq (λ n. n.0) (number_at w64) u64 (λ n. n < 2 ^ 64) _ _ _ Nothing u64_form (λ serial.
    last (λ n. n.1) (λ leaf. (serial, leaf)) (number_at w32) u32 (λ n. n < 2 ^ 32) _ u32_form (λ l. ((tt, refl), refl)) (λ n k. rw (← k.1))))

-- so many credentials
credentials_take : (n : ℕ) (bytes : List ℕ) (list : List Credential) (rest : List ℕ) → IsBytes bytes → credentials_at n bytes ≡ got list rest
    → Took bytes (flat_map text.credential list) rest × AllByRecursion IsCredential list × (Nothing list × (length list ≡ n))
unfolding credentials_at
credentials_take zero bytes list rest fits e =
    let p = got_pair [] list bytes rest e in
    subst (λ (q : List ℕ). Took bytes (flat_map text.credential list) q × AllByRecursion IsCredential list × (Nothing list × (length list ≡ 0))) p.1
    (subst (λ (v : List Credential). Took bytes (flat_map text.credential v) bytes × AllByRecursion IsCredential v × (Nothing v × (length v ≡ 0))) p.0 (record { parts = refl; rest_fits = fits }, tt, (tt, refl)))
credentials_take (suc n) bytes list rest fits e =
    let a = bind_some (credential_at bytes) (λ first. credentials_at n first.1 >>= λ others. Some (first.0 ∷ others.0, others.1)) (list, rest) e in
    let b = bind_some (credentials_at n a.0.1) (λ others. Some (a.0.0 ∷ others.0, others.1)) (list, rest) a.2 in
    let t0 = credential_form.takes bytes a.0.0 a.0.1 fits a.1 in
    let t1 = credentials_take n a.0.1 b.0.0 b.0.1 t0.0.rest_fits b.1 in
    let both = took_both bytes (text.credential a.0.0) a.0.1 (flat_map text.credential b.0.0) b.0.1 t0.0 t1.0 in
    let p = got_pair (a.0.0 ∷ b.0.0) list b.0.1 rest b.2 in
    subst (λ (q : List ℕ). Took bytes (flat_map text.credential list) q × AllByRecursion IsCredential list × (Nothing list × (length list ≡ suc n))) p.1
    (subst (λ (v : List Credential). Took bytes (flat_map text.credential v) b.0.1 × AllByRecursion IsCredential v × (Nothing v × (length v ≡ suc n))) p.0 (both, (t0.1, t1.1), (tt, ap suc t1.2.1)))

credentials_again : (list : List Credential) (rest : List ℕ) → AllByRecursion IsCredential list → credentials_at (length list) (flat_map text.credential list ++ rest) ≡ got list rest
unfolding credentials_at
credentials_again [] rest fits = refl
credentials_again (c ∷ cs) rest fits =
    let grouped : flat_map text.credential (c ∷ cs) ++ rest ≡ text.credential c ++ (flat_map text.credential cs ++ rest) = append_assoc (text.credential c) (flat_map text.credential cs) rest in
    ap (credentials_at (suc (length cs))) grouped ∙ rw (credential_form.again c (flat_map text.credential cs ++ rest) fits.0 tt, credentials_again cs rest fits.1) refl

credentials_rest : (n : ℕ) → IsRest (credentials_at n) (λ list. flat_map text.credential list) (AllByRecursion IsCredential) (λ list. Nothing list × (length list ≡ n))
credentials_rest n = record {
  takes = λ bytes list rest fits e. credentials_take n bytes list rest fits e;
  again = λ list rest fits known. subst (λ (k : ℕ). credentials_at k (flat_map text.credential list ++ rest) ≡ got list rest) known.1 (credentials_again list rest fits);
}

pub list_form : IsForm list_at text.credentials AreCredentials
unfolding list_at
list_form = seq length (number_at w16) u16 (λ n. n < 2 ^ 16) (λ n. credentials_at n.0 n.1) (λ list. flat_map text.credential list) (AllByRecursion IsCredential) Nothing u16_form credentials_rest
