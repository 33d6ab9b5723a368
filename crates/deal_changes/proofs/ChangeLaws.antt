-- The two laws of changes: what is read is spelled so, and what is spelled so is read.
use Rattle.std.proofs.Common.{◌≡◌, ℕ, ◌^◌, ◌<◌, true, cond, eqb, List, [], ◌∷◌, ◌++◌, length, Option, Some, None, Result, Ok, Err, refl, sym, ap, subst, ◌∙◌}
use Rattle.std.specs.Prelude.{IfOk}
use Rattle.std.specs.Int.{w64}
use Rattle.std.proofs.lemmas.Bool.{eqb-true}
use Rattle.std.proofs.lemmas.List.{append-nil, nil_from_length}
use Rattle.deal_changes.specs.declared.change.Change.{Change}
use Rattle.deal_changes.specs.declared.change.Change.TheVariants.{Found, Enlist, Dismiss, Grant, Hold, Release, Deny, Turned, Polled, Settled, Revoke, Lapse}
use Rattle.deal_changes.specs.declared.fault.ChangeFault.{ChangeFault}
use Rattle.deal_changes.specs.Spelling as text
use Rattle.deal_changes.specs.Spelling.{u32, u64, IsWriteable, IsTid, IsListed, IsStamp, IsWish, AreSettings, AreCredentials, spelling, IsChange}
use Rattle.deal_changes.specs.Reading.{Read, ◌>>=◌, Gives, octet_at, number_at, coded_at, tid_at, dismissed_at, stamp_at, wish_at, settings_at, list_at, numbers_at, body_of, outcome_of, found_at, enlist_at, dismiss_at, grant_at, hold_at, release_at, deny_at, turned_at, polled_at, settled_at, revoke_at, lapse_at, order_at, kind_at, change_of}
use Rattle.deal_changes.proofs.Forms.{IsBytes, IsBytes-rest, bind_some, if_some, none_some, got, same_some, Took, Nothing, octet_form}
use Rattle.deal_changes.proofs.PartForms.{u64_form, tid_form, dismissed_form, body_form, outcome_form}
use Rattle.deal_changes.proofs.ChangeForms.{stamp_form, wish_form, settings_form, list_form, numbers_form}
use Rattle.deal_changes.proofs.Arms.{Arm, arm1, arm2, arm3, arm4, again1, again2, again3, again4}

-- ---- what is read is spelled so

found_takes : Arm 1 found_at
unfolding found_at
found_takes = arm1 1 Found settings_at text.settings AreSettings settings_form (λ s. refl) (λ s h. h)

enlist_takes : Arm 2 enlist_at
unfolding enlist_at
enlist_takes = arm2 2 Enlist (number_at w64) u64 (λ n. n < 2 ^ 64) list_at text.credentials AreCredentials u64_form list_form (λ t l. refl) (λ t l g h. (g, h))

dismiss_takes : Arm 3 dismiss_at
unfolding dismiss_at
dismiss_takes = arm2 3 Dismiss (number_at w64) u64 (λ n. n < 2 ^ 64) dismissed_at text.who IsListed u64_form dismissed_form (λ t w. refl) (λ t w g h. (g, h))

grant_takes : Arm 4 grant_at
unfolding grant_at
grant_takes = arm4 4 (λ s b w n. Grant s b w n.0 n.1) stamp_at text.stamp IsStamp (coded_at body_of) (λ b. text.body b ∷ []) Nothing wish_at text.wish IsWish numbers_at (λ n. u64 n.0 ++ u32 n.1) (λ n. (n.0 < 2 ^ 64) × (n.1 < 2 ^ 32))
    stamp_form body_form wish_form numbers_form (λ s b w n. refl) (λ s b w n g h i j. (g, i, j.0, j.1))

hold_takes : Arm 5 hold_at
unfolding hold_at
hold_takes = arm3 5 Hold stamp_at text.stamp IsStamp (coded_at body_of) (λ b. text.body b ∷ []) Nothing wish_at text.wish IsWish stamp_form body_form wish_form (λ s b w. refl) (λ s b w g h i. (g, i))

release_takes : Arm 6 release_at
unfolding release_at
release_takes = arm2 6 Release (number_at w64) u64 (λ n. n < 2 ^ 64) tid_at text.short IsTid u64_form tid_form (λ t i. refl) (λ t i g h. (g, h))

deny_takes : Arm 7 deny_at
unfolding deny_at
deny_takes = arm2 7 Deny (number_at w64) u64 (λ n. n < 2 ^ 64) tid_at text.short IsTid u64_form tid_form (λ t i. refl) (λ t i g h. (g, h))

turned_takes : Arm 8 turned_at
unfolding turned_at
turned_takes = arm1 8 Turned stamp_at text.stamp IsStamp stamp_form (λ s. refl) (λ s h. h)

polled_takes : Arm 9 polled_at
unfolding polled_at
polled_takes = arm1 9 Polled stamp_at text.stamp IsStamp stamp_form (λ s. refl) (λ s h. h)

settled_takes : Arm 10 settled_at
unfolding settled_at
settled_takes = arm2 10 Settled stamp_at text.stamp IsStamp (coded_at outcome_of) (λ b. text.outcome b ∷ []) Nothing stamp_form outcome_form (λ s b. refl) (λ s b g h. g)

revoke_takes : Arm 11 revoke_at
unfolding revoke_at
revoke_takes = arm3 11 Revoke stamp_at text.stamp IsStamp (number_at w64) u64 (λ n. n < 2 ^ 64) octet_at (λ n. n ∷ []) (λ n. n < 2 ^ 8) stamp_form u64_form octet_form (λ s n r. refl) (λ s n r g h i. (g, h, i))

lapse_takes : Arm 12 lapse_at
unfolding lapse_at
lapse_takes = arm2 12 Lapse (number_at w64) u64 (λ n. n < 2 ^ 64) tid_at text.short IsTid u64_form tid_form (λ t i. refl) (λ t i g h. (g, h))

-- a kind that was found by its octet
by_octet : (n k : ℕ) (read : List ℕ → Read Change) → eqb n k ≡ true → Arm k read → Arm n read
by_octet n k read is arm = subst (λ m. Arm m read) (sym (eqb-true n k is)) arm

order_takes : (n : ℕ) → Arm n (order_at n)
unfolding order_at
order_takes n bytes c rest ok e =
    if_some (Took (n ∷ bytes) (spelling c) rest × IsChange c) (eqb n 1) (found_at bytes) _ (c, rest) (λ is q. by_octet n 1 found_at is found_takes bytes c rest ok q)
    (λ _ q. if_some (Took (n ∷ bytes) (spelling c) rest × IsChange c) (eqb n 2) (enlist_at bytes) _ (c, rest) (λ is q. by_octet n 2 enlist_at is enlist_takes bytes c rest ok q)
    (λ _ q. if_some (Took (n ∷ bytes) (spelling c) rest × IsChange c) (eqb n 3) (dismiss_at bytes) _ (c, rest) (λ is q. by_octet n 3 dismiss_at is dismiss_takes bytes c rest ok q)
    (λ _ q. if_some (Took (n ∷ bytes) (spelling c) rest × IsChange c) (eqb n 6) (release_at bytes) _ (c, rest) (λ is q. by_octet n 6 release_at is release_takes bytes c rest ok q)
    (λ _ q. if_some (Took (n ∷ bytes) (spelling c) rest × IsChange c) (eqb n 7) (deny_at bytes) _ (c, rest) (λ is q. by_octet n 7 deny_at is deny_takes bytes c rest ok q)
    (λ _ q. if_some (Took (n ∷ bytes) (spelling c) rest × IsChange c) (eqb n 12) (lapse_at bytes) None (c, rest) (λ is q. by_octet n 12 lapse_at is lapse_takes bytes c rest ok q)
    (λ _ q. none_some _ _ q) q) q) q) q) q) e

kind_takes : (n : ℕ) → Arm n (kind_at n)
unfolding kind_at
kind_takes n bytes c rest ok e =
    if_some (Took (n ∷ bytes) (spelling c) rest × IsChange c) (eqb n 4) (grant_at bytes) _ (c, rest) (λ is q. by_octet n 4 grant_at is grant_takes bytes c rest ok q)
    (λ _ q. if_some (Took (n ∷ bytes) (spelling c) rest × IsChange c) (eqb n 5) (hold_at bytes) _ (c, rest) (λ is q. by_octet n 5 hold_at is hold_takes bytes c rest ok q)
    (λ _ q. if_some (Took (n ∷ bytes) (spelling c) rest × IsChange c) (eqb n 8) (turned_at bytes) _ (c, rest) (λ is q. by_octet n 8 turned_at is turned_takes bytes c rest ok q)
    (λ _ q. if_some (Took (n ∷ bytes) (spelling c) rest × IsChange c) (eqb n 9) (polled_at bytes) _ (c, rest) (λ is q. by_octet n 9 polled_at is polled_takes bytes c rest ok q)
    (λ _ q. if_some (Took (n ∷ bytes) (spelling c) rest × IsChange c) (eqb n 10) (settled_at bytes) _ (c, rest) (λ is q. by_octet n 10 settled_at is settled_takes bytes c rest ok q)
    (λ _ q. if_some (Took (n ∷ bytes) (spelling c) rest × IsChange c) (eqb n 11) (revoke_at bytes) (order_at n bytes) (c, rest) (λ is q. by_octet n 11 revoke_at is revoke_takes bytes c rest ok q)
    (λ _ q. order_takes n bytes c rest ok q) q) q) q) q) q) e

pub change_takes : (bytes : List ℕ) (c : Change) → IsBytes bytes → change_of bytes ≡ Some c → IsChange c × (bytes ≡ spelling c)
unfolding change_of
change_takes [] c ok e = none_some _ _ e
change_takes (n ∷ bytes) c ok e =
    let a = bind_some (kind_at n bytes) (λ x. cond (eqb (length x.1) 0) (Some x.0) None) c e in
    let t = kind_takes n bytes a.0.0 a.0.1 (IsBytes-rest n bytes ok) a.1 in
    if_some (IsChange c × (n ∷ bytes ≡ spelling c)) (eqb (length a.0.1) 0) (Some a.0.0) None c
    (λ ended q.
    let nothing : a.0.1 ≡ [] = nil_from_length a.0.1 (eqb-true _ _ ended) in
    let whole : n ∷ bytes ≡ spelling a.0.0 = t.0.parts ∙ ap (λ (r : List ℕ). spelling a.0.0 ++ r) nothing ∙ append-nil (spelling a.0.0) in
    subst (λ (v : Change). IsChange v × (n ∷ bytes ≡ spelling v)) (same_some a.0.0 c q) (t.1, whole))
    (λ _ q. none_some _ _ q) a.2

-- ---- what is spelled so is read

abbrev first_change : List ℕ → Read Change
first_change bytes = octet_at bytes >>= λ n. kind_at n.0 n.1

kind_again : (c : Change) (rest : List ℕ) → IsChange c → first_change (spelling c ++ rest) ≡ got c rest
unfolding kind_at order_at found_at enlist_at dismiss_at grant_at hold_at release_at deny_at turned_at polled_at settled_at revoke_at lapse_at
kind_again (Found s) rest h = again1 Found settings_at text.settings AreSettings settings_form s rest h
kind_again (Enlist time list) rest h = again2 Enlist (number_at w64) u64 (λ n. n < 2 ^ 64) list_at text.credentials AreCredentials u64_form list_form time list rest h.0 h.1
kind_again (Dismiss time w) rest h = again2 Dismiss (number_at w64) u64 (λ n. n < 2 ^ 64) dismissed_at text.who IsListed u64_form dismissed_form time w rest h.0 h.1
kind_again (Grant s b w serial leaf) rest h = again4 (λ s b w n. Grant s b w n.0 n.1) stamp_at text.stamp IsStamp (coded_at body_of) (λ b. text.body b ∷ []) Nothing wish_at text.wish IsWish numbers_at (λ n. u64 n.0 ++ u32 n.1) (λ n. (n.0 < 2 ^ 64) × (n.1 < 2 ^ 32)) stamp_form body_form wish_form numbers_form s b w (serial, leaf) rest h.0 tt h.1 (h.2, h.3)
kind_again (Hold s b w) rest h = again3 Hold stamp_at text.stamp IsStamp (coded_at body_of) (λ b. text.body b ∷ []) Nothing wish_at text.wish IsWish stamp_form body_form wish_form s b w rest h.0 tt h.1
kind_again (Release time tid) rest h = again2 Release (number_at w64) u64 (λ n. n < 2 ^ 64) tid_at text.short IsTid u64_form tid_form time tid rest h.0 h.1
kind_again (Deny time tid) rest h = again2 Deny (number_at w64) u64 (λ n. n < 2 ^ 64) tid_at text.short IsTid u64_form tid_form time tid rest h.0 h.1
kind_again (Turned s) rest h = again1 Turned stamp_at text.stamp IsStamp stamp_form s rest h
kind_again (Polled s) rest h = again1 Polled stamp_at text.stamp IsStamp stamp_form s rest h
kind_again (Settled s accepted) rest h = again2 Settled stamp_at text.stamp IsStamp (coded_at outcome_of) (λ b. text.outcome b ∷ []) Nothing stamp_form outcome_form s accepted rest h tt
kind_again (Revoke s serial reason) rest h = again3 Revoke stamp_at text.stamp IsStamp (number_at w64) u64 (λ n. n < 2 ^ 64) octet_at (λ n. n ∷ []) (λ n. n < 2 ^ 8) stamp_form u64_form octet_form s serial reason rest h.0 h.1 h.2
kind_again (Lapse time tid) rest h = again2 Lapse (number_at w64) u64 (λ n. n < 2 ^ 64) tid_at text.short IsTid u64_form tid_form time tid rest h.0 h.1

ended : (bytes : List ℕ) (c : Change) → first_change bytes ≡ got c [] → change_of bytes ≡ Some c
unfolding change_of
ended [] c e = none_some _ _ e
ended (n ∷ bytes) c e = rw e refl

pub change_again : (c : Change) → IsChange c → change_of (spelling c) ≡ Some c
change_again c h = ended (spelling c) c (ap first_change (sym (append-nil (spelling c))) ∙ kind_again c [] h)

-- ---- as the readers' clauses say it

pub is_found : (bytes : List ℕ) (r : Result Change ChangeFault) → IsBytes bytes → Gives (λ c. c) r (change_of bytes) → IfOk r (λ c. IsChange c × (bytes ≡ spelling c))
is_found bytes (Ok c) ok given = change_takes bytes c ok given
is_found bytes (Err e) ok given = tt

pub is_only : (bytes : List ℕ) (r : Result Change ChangeFault) (c : Change) → Gives (λ c. c) r (change_of bytes) → IsChange c → bytes ≡ spelling c → Gives (λ (c : Change). c) r (Some c)
is_only bytes r c given h e = subst (λ (o : Option Change). Gives (λ c. c) r o) (ap change_of e ∙ change_again c h) given

-- a change that has a spelling can be written
writeable : (c : Change) → IsChange c → IsWriteable c
writeable (Found s) h = h.name
writeable (Enlist time list) h = h.1.0
writeable (Dismiss time w) h = tt
writeable (Grant s b w serial leaf) h = (h.0.sender, h.1.subject, h.1.spki, h.1.exts)
writeable (Hold s b w) h = (h.0.sender, h.1.subject, h.1.spki, h.1.exts)
writeable (Release time tid) h = tt
writeable (Deny time tid) h = tt
writeable (Turned s) h = h.sender
writeable (Polled s) h = h.sender
writeable (Settled s accepted) h = h.sender
writeable (Revoke s serial reason) h = h.0.sender
writeable (Lapse time tid) h = tt

pub is_writeable : (bytes : List ℕ) (r : Result Change ChangeFault) → IsBytes bytes → Gives (λ c. c) r (change_of bytes) → IfOk r IsWriteable
is_writeable bytes (Ok c) ok given = writeable c (change_takes bytes c ok given).0
is_writeable bytes (Err e) ok given = tt
