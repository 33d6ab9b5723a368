-- What may be dismissed and listed may come next.
use Rattle.std.proofs.Common.{◌≡◌, ⊎_elim, ℕ, ◌≤◌, Bool, true, false, List, [], ◌∷◌, ◌++◌, length, Option, refl, sym, ◌∙◌, ap, subst, arith}
use Rattle.std.specs.List.{list_any, AllByRecursion}
use Rattle.std.proofs.Math.Logic.{∥∥₁_elim}
use Rattle.std.proofs.Math.Nat.{le-max_right}
use Rattle.std.proofs.Props.{props}
use Rattle.std.proofs.lemmas.Bool.{or_cases, and_parts}
use Rattle.std.proofs.lemmas.List.{length-take-le}
use Rattle.std.proofs.lemmas.Slice.Eq.{bytes_eq-Decides}
use Rattle.sha2.specs.Sha256.{sha256}
use Rattle.sha2.proofs.Facts256.{length-sha256}
use Rattle.deal_changes.specs.declared.change.Kind.{Kind}
use Rattle.deal_changes.specs.declared.change.Kind.TheVariants.{Mac, Lms}
use Rattle.deal_changes.specs.declared.change.Who.TheVariants.{Listed}
use Rattle.deal_changes.specs.declared.change.Credential.{Credential}
use Rattle.deal_changes.specs.declared.change.Change.{Change}
use Rattle.deal_changes.specs.declared.change.Change.TheVariants.{Found, Enlist, Dismiss, Grant, Hold, Release, Deny, Turned, Polled, Settled, Revoke, Lapse}
use Rattle.deal_changes.specs.Spelling.{IsWho, IsCredential}
use Rattle.deal_model.specs.Keys.{key_id}
use Rattle.deal_model.specs.Views.{History, time_of, same, same_kind, is_entry, lists, is_listed, is_dismissed}
use Rattle.deal_model.specs.Rules.{IsNamed, AreNew, Allowed, AllowedFrom, Legal}
use Rattle.desk.specs.declared.answers.Added.{Added}
use Rattle.desk.specs.declared.answers.Added.TheVariants.{Done, Full, DiskFault, NoMemory}
use Rattle.desk.specs.Due.{event_time}
use Rattle.desk.specs.Calls.{Fits, IsAdded}
use Rattle.desk.specs.Listings.{listing_end, CanDismiss, IsDismissed, AreFit, AreFree, IsEnlisted}
use Rattle.desk.proofs.LawfulLemmas.{some_out}
use Rattle.desk.proofs.FitLemmas.{event_bound}

-- ---- a listed identifier is well formed

key_id_length : (key : List ℕ) → length (key_id key) ≡ 20
unfolding key_id
key_id_length key = length-take-le 20 (sha256 key) (omega (arith, length-sha256 key))

pub named_who : (kind : Kind) (kid material : List ℕ) → IsNamed kind kid material → IsWho (Listed kind kid)
named_who Mac kid material n = n.kid_high
named_who Lms kid material n = ap (λ (l : List ℕ). length l) n.named ∙ key_id_length material

who_prop : (kind : Kind) (kid : List ℕ) → IsProp (IsWho (Listed kind kid))
who_prop Mac kid = Prim.hlevel props
who_prop Lms kid = Prim.hlevel props

kinds_same : (a b : Kind) → same_kind a b ≡ true → a ≡ b
kinds_same Mac Mac e = refl
kinds_same Mac Lms e = absurd (cc e)
kinds_same Lms Mac e = absurd (cc e)
kinds_same Lms Lms e = refl

entry_who : (kind : Kind) (kid : List ℕ) (c : Credential) → is_entry kind kid c ≡ true → IsNamed c.kind c.kid c.material → IsWho (Listed kind kid)
entry_who kind kid c is n =
    let parts = and_parts (same_kind c.kind kind) (same c.kid kid) is in
    let named = named_who c.kind c.kid c.material n in
    let kinded = subst (λ (k : Kind). IsWho (Listed k c.kid)) (kinds_same c.kind kind parts.0) named in
    subst (λ (id : List ℕ). IsWho (Listed kind id)) ((bytes_eq-Decides c.kid kid).0 parts.1) kinded

entries_who : (h : History) (kind : Kind) (kid : List ℕ) (list : List Credential) → AreNew h list → list_any (is_entry kind kid) list ≡ true → IsWho (Listed kind kid)
entries_who h kind kid [] new any = absurd (cc any)
entries_who h kind kid (c ∷ cs) new any = ⊎_elim (λ here. entry_who kind kid c here new.0) (λ later. entries_who h kind kid cs new.3 later) (or_cases (is_entry kind kid c) (list_any (is_entry kind kid) cs) any)

lists_who : (h : History) (kind : Kind) (kid : List ℕ) (c : Change) → Allowed h c → lists kind kid c ≡ true → IsWho (Listed kind kid)
lists_who h kind kid (Enlist time list) a any = entries_who h kind kid list a.holds.2 any
lists_who h kind kid (Found s) a any = absurd (cc any)
lists_who h kind kid (Dismiss time w) a any = absurd (cc any)
lists_who h kind kid (Grant s b w serial leaf) a any = absurd (cc any)
lists_who h kind kid (Hold s b w) a any = absurd (cc any)
lists_who h kind kid (Release time id) a any = absurd (cc any)
lists_who h kind kid (Deny time id) a any = absurd (cc any)
lists_who h kind kid (Turned s) a any = absurd (cc any)
lists_who h kind kid (Polled s) a any = absurd (cc any)
lists_who h kind kid (Settled s accepted) a any = absurd (cc any)
lists_who h kind kid (Revoke s serial reason) a any = absurd (cc any)
lists_who h kind kid (Lapse time id) a any = absurd (cc any)

listed_from : (kind : Kind) (kid : List ℕ) (before cs : List Change) → AllowedFrom before cs → list_any (lists kind kid) cs ≡ true → IsWho (Listed kind kid)
listed_from kind kid before [] a any = absurd (cc any)
listed_from kind kid before (c ∷ cs) a any = ⊎_elim (λ here. lists_who before kind kid c a.0 here) (λ later. listed_from kind kid (before ++ c ∷ []) cs a.1 later) (or_cases (lists kind kid c) (list_any (lists kind kid) cs) any)

listed_who : {P : Type 0} (h : History) (kind : Kind) (kid : List ℕ) → ∥ Legal h × P ∥₁ → is_listed h kind kid ≡ true → IsWho (Listed kind kid)
listed_who h kind kid t listed = ∥∥₁_elim t (who_prop kind kid) (λ l. listed_from kind kid [] h l.0.1 listed)

-- ---- dismissals

pub can_dismiss : (h seen : History) (kind : Kind) (kid a b : List ℕ) (listed dismissed : Bool) → seen ≡ h → a ≡ kid → b ≡ kid → listed ≡ is_listed seen kind a → dismissed ≡ is_dismissed seen kind b → listed ≡ true → dismissed ≡ false → CanDismiss h kind kid
can_dismiss h seen kind kid a b listed dismissed same first second is was here gone =
    let listed_there : is_listed seen kind a ≡ true = sym is ∙ here in
    let kept_there : is_dismissed seen kind b ≡ false = sym was ∙ gone in (
      subst (λ (l : History). is_listed l kind kid ≡ true) same (subst (λ (id : List ℕ). is_listed seen kind id ≡ true) first listed_there),
      subst (λ (l : History). is_dismissed l kind kid ≡ false) same (subst (λ (id : List ℕ). is_dismissed seen kind id ≡ false) second kept_there),
    )

pub fits_dismiss : {P : Type 0} (h : History) (now : ℕ) (kind : Kind) (kid : List ℕ) → ∥ Legal h × P ∥₁ → now ≤ 250000000000 → CanDismiss h kind kid → Fits h (Dismiss (event_time h now) (Listed kind kid))
fits_dismiss h now kind kid t le can = let bound = event_bound h now t le in
    record { form = (omega (arith, bound), listed_who h kind kid t can.0); later = le-max_right now (time_of h); bounded = bound; opening = sym (some_out h t); holds = can }

pub dismissed_ends : (h : History) (d : Option Change) (kind : Kind) (kid : List ℕ) (time : ℕ) (end : Added) (g : History) (e : Option Change) → CanDismiss h kind kid → IsAdded h d (Dismiss time (Listed kind kid)) end g e → IsDismissed h d kind kid time (listing_end end (length g)) g e
dismissed_ends h d kind kid time Done g e can a = (can, a, refl)
dismissed_ends h d kind kid time Full g e can a = (can, a)
dismissed_ends h d kind kid time DiskFault g e can a = (can, a)
dismissed_ends h d kind kid time NoMemory g e can a = a

-- ---- lists

named_short : (kind : Kind) (kid material : List ℕ) → IsNamed kind kid material → (length kid ≤ 64) × (length material ≤ 64)
named_short Mac kid material n = (n.kid_high, n.secret_high)
named_short Lms kid material n = (omega (arith, named_who Lms kid material n), omega (arith, n.whole))

credentials : (list : List Credential) → AreFit list → AllByRecursion IsCredential list
credentials [] fit = tt
credentials (c ∷ cs) fit = let short = named_short c.kind c.kid c.material fit.0 in
    (record { kid = short.0; material = short.1; rights = fit.1 }, credentials cs fit.3)

are_new : (h : History) (list : List Credential) → AreFit list → AreFree h list → AreNew h list
are_new h [] fit free = tt
are_new h (c ∷ cs) fit free = (fit.0, free.0, fit.2, are_new h cs fit.3 free.1)

pub fits_enlist : {P : Type 0} (h : History) (now : ℕ) (list : List Credential) → ∥ Legal h × P ∥₁ → now ≤ 250000000000 → 1 ≤ length list → length list ≤ 256 → AreFit list → AreFree h list → Fits h (Enlist (event_time h now) list)
fits_enlist h now list t le some most fit free = let bound = event_bound h now t le in
    record { form = (omega (arith, bound), (omega (arith, most), credentials list fit)); later = le-max_right now (time_of h); bounded = bound; opening = sym (some_out h t); holds = (some, most, are_new h list fit free) }

pub enlisted_ends : (h : History) (d : Option Change) (list : List Credential) (time : ℕ) (end : Added) (g : History) (e : Option Change) → AreFree h list → IsAdded h d (Enlist time list) end g e → IsEnlisted h d list time (listing_end end (length g)) g e
enlisted_ends h d list time Done g e free a = (free, a, refl)
enlisted_ends h d list time Full g e free a = (free, a)
enlisted_ends h d list time DiskFault g e free a = (free, a)
enlisted_ends h d list time NoMemory g e free a = a
