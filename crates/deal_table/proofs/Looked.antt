-- What a look refuses is refused.
use Rattle.std.proofs.Common.{◌≡◌, ℕ, Bool, true, false, not, cond, List, [], ◌∷◌, ◌++◌, Option, Some, None, is_some, refl, sym, ap, subst, ◌∙◌}
use Rattle.std.specs.Prelude.{unwrap_or}
use Rattle.deal_changes.specs.declared.change.Kind.{Kind}
use Rattle.deal_changes.specs.declared.change.Kind.TheVariants.{Mac, Lms}
use Rattle.deal_changes.specs.declared.change.Change.TheVariants.{Revoke}
use Rattle.deal_model.specs.declared.asking.Ask.{Ask}
use Rattle.deal_model.specs.declared.states.Owner.{Owner}
use Rattle.deal_model.specs.declared.states.Standing.{Standing}
use Rattle.deal_model.specs.declared.states.Standing.TheVariants.{Unknown, OtherKind, Barred, Good}
use Rattle.deal_model.specs.Views.{History, transaction_state, is_told}
use Rattle.cmp_values.specs.declared.fail_info.FailInfo.{FailInfo}
use Rattle.cmp_values.specs.declared.fail_info.FailInfo.TheVariants.{BadMessageCheck, BadAlg}
use Rattle.deal_table.specs.declared.look.Look.{Look}
use Rattle.deal_table.specs.History.{name_of, skew_of, place_of_digest, event_time, outer_standing, look_of}
use Rattle.deal_table.specs.Message.{Body, Enrols, Confirms, Polls, Withdraws, Nests, OtherBody, is_nested, Facts, Letter, subject_of}
use Rattle.deal_table.specs.Table.{Row, ◌when◌, To, Decision, Repeats, Refuses, Event, Sent, unless, bare, guard_by, guarded, known, protection_rows, check_rows, time_rows, trusted_by, standing_now, tid_of, served_rows, new_rows, old_rows, party_rows, confirm_rows, deal_certificate, poll_rows, entry_rows, wish_rows, key_rows, proof_rows, is_possessed, reason_rows, revoke_rows, state_now, deal_now, enrolled, made, settles, poll_made, stamp_by, about, repeated, passed, form_rows, header_rows, wrap_rows, read, opened, decision}
use Rattle.deal_table.specs.Looked.{looked, looked_to, IsAskOf, looked_about, looked_passed, looked_opened, IsRefusedByLook}
use Rattle.deal_table.proofs.Rows.{unless_append}
use Rattle.deal_table.proofs.Sends.{Goes, unless_goes, trusted_by_goes, repeated_goes, read_goes, sent_to}

-- where the one is this refusal, the other is
abbrev pub Follows : FailInfo → To → Decision → Decision → Type 0
Follows fail to d e = d ≡ Refuses fail to → e ≡ Refuses fail to

module _ (fail : FailInfo) (to : To) where
  -- what isn't decided by the look is no refusal of it
  later_follows : (e : Decision) → Follows fail to (Repeats 0) e
  later_follows e q = absurd (let f : Repeats 0 ≡ Refuses fail to = q in cc)

  unless_follows : (t : To) (rows : List Row) (d e : Decision) → Follows fail to d e → Follows fail to (unless t rows d) (unless t rows e)
  unless_follows t [] d e f = f
  unless_follows t (row ∷ rows) d e f = elim row.applies as (λ v. Follows fail to (cond v (Refuses row.fail t) (unless t rows d)) (cond v (Refuses row.fail t) (unless t rows e))) [ true ↦ λ q. q | false ↦ unless_follows t rows d e f ]

  known_follows : (t : To) (s : Standing) (next other : Owner → Decision) → ((o : Owner) → Follows fail to (next o) (other o)) → Follows fail to (known t s next) (known t s other)
  known_follows t Unknown next other f = λ q. q
  known_follows t OtherKind next other f = λ q. q
  known_follows t Barred next other f = λ q. q
  known_follows t (Good who key rights) next other f = f (record { who = who; key = key; rights = rights })

  trusted_follows : (s : Standing) (skew t : ℕ) (outer : Bool) (m : Facts) (next other : Owner → Decision) → ((o : Owner) → Follows fail to (next o) (other o)) → Follows fail to (trusted_by s skew t outer m next) (trusted_by s skew t outer m other)
  trusted_follows s skew t outer m next other f =
      unless_follows (bare outer) (protection_rows m) _ _ (known_follows (bare outer) s _ _
      (λ o. unless_follows (bare outer) (check_rows m o) _ _ (unless_follows (guarded outer m o) (time_rows m skew t) _ _ (f o))))

  -- rows in front
  front_follows : (t : To) (xs ys : List Row) (e : Decision) → Follows fail to (unless t xs (Repeats 0)) (unless t (xs ++ ys) e)
  front_follows t xs ys e q = unless_append t xs ys e ∙ unless_follows t xs (Repeats 0) (unless t ys e) (later_follows (unless t ys e)) q

  front_of_three : (t : To) (xs ys zs : List Row) (e : Decision) → Follows fail to (unless t xs (Repeats 0)) (unless t (xs ++ ys ++ zs) e)
  front_of_three t xs ys zs e q = unless_append t (xs ++ ys) zs e ∙ front_follows t xs ys (unless t zs e) q

  front_of_four : (t : To) (xs ys zs us : List Row) (e : Decision) → Follows fail to (unless t xs (Repeats 0)) (unless t (xs ++ ys ++ zs ++ us) e)
  front_of_four t xs ys zs us e q = unless_append t (xs ++ ys ++ zs) us e ∙ front_of_three t xs ys zs (unless t us e) q

  about_follows : (v : Event) (s : Sent) (look : Look) (body : Body) → look.tid_state ≡ state_now v s → Follows fail to (looked_about look (name_of v.history) s.to s.owner body (Repeats 0)) (about v s body)
  about_follows v s look (Enrols e) k = rw k (front_of_three s.to (new_rows (state_now v s) ++ wish_rows (name_of v.history) s.owner e) (key_rows v.history e) (proof_rows (is_possessed s.owner e)) (made v s (enrolled v s e)))
  about_follows v s look (Confirms f) k = rw k (front_of_three s.to (old_rows (state_now v s)) (party_rows v.history s.header s.owner.who) (confirm_rows (deal_certificate v.history (tid_of s.header)) v.time) (settles v s f))
  about_follows v s look (Polls p) k = rw k (front_of_four s.to (old_rows (state_now v s)) (party_rows v.history s.header s.owner.who) (poll_rows (state_now v s) (is_told v.history (tid_of s.header))) (entry_rows (deal_now v s) p) (poll_made v s (state_now v s) (deal_now v s)))
  about_follows v s look (Withdraws a) k = rw k (front_follows s.to (new_rows (state_now v s) ++ reason_rows (name_of v.history) a) (revoke_rows v.history s.owner (unwrap_or a.certificate.serial 0)) (made v s (Revoke (stamp_by v s) (unwrap_or a.certificate.serial 0) (unwrap_or a.reason 0))))
  about_follows v s look (Nests count) k = λ q. q
  about_follows v s look OtherBody k = λ q. q

  repeated_follows : (found : Option ℕ) (d e : Decision) → Follows fail to d e → Follows fail to (repeated found d) (repeated found e)
  repeated_follows (Some place) d e f = λ q. q
  repeated_follows None d e f = f

  passed_follows : (h : History) (ask : Ask) (now : ℕ) (w : List ℕ) (m : Facts) → m.digest ≡ ask.digest → tid_of m.header ≡ ask.tid → m.header.kind ≡ ask.kind → m.header.kid ≡ ask.kid
      → Follows fail to (looked_passed (look_of h ask now) (name_of h) m (Repeats 0)) (passed (record { history = h; time = event_time h now; words = w }) m)
  passed_follows h ask now w m digest tid kind kid =
      let v : Event = record { history = h; time = event_time h now; words = w } in
      let state : transaction_state h ask.tid ≡ transaction_state h (tid_of m.header) = ap (transaction_state h) (sym tid) in
      rw (← digest, ← kind, ← kid) (repeated_follows (place_of_digest h m.digest) _ _ (unless_follows (bare false) (served_rows m) _ _
      (trusted_follows (standing_now h (event_time h now) m) (skew_of h) (event_time h now) false m _ _
      (λ o. about_follows v (record { to = guarded false m o; digest = m.digest; header = m.header; owner = o }) (look_of h ask now) m.body state))))

  -- the nested message around: where it has no kind that is served, its sender isn't asked for
  outer_follows : (asked found : Standing) (kind : Option Kind) (skew t : ℕ) (m : Facts) (next other : Owner → Decision) → m.header.kind ≡ kind → ((k : Kind) → kind ≡ Some k → asked ≡ found) → ((o : Owner) → Follows fail to (next o) (other o))
      → Follows fail to (trusted_by asked skew t true m next) (trusted_by found skew t true m other)
  outer_follows asked found (Some k) skew t m next other is same f = rw (same k refl) (trusted_follows found skew t true m next other f)
  outer_follows asked found None skew t m next other is same f =
      rw is (elim m.is_protected as (λ b. Follows fail to (unless (bare true) (unprotected b) (known (bare true) asked (checked next))) (unless (bare true) (unprotected b) (known (bare true) found (checked other)))) [ true ↦ λ q. q | false ↦ λ q. q ])
    where
      unprotected : Bool → List Row
      unprotected b = (BadMessageCheck when not b) ∷ (BadAlg when true) ∷ []

      checked : (Owner → Decision) → Owner → Decision
      checked then_next o = unless (bare true) (check_rows m o) (unless (guarded true m o) (time_rows m skew t) (then_next o))

  read_follows : (unreadable t : To) (m : Facts) (d e : Decision) → Follows fail to d e → Follows fail to (read unreadable t m d) (read unreadable t m e)
  read_follows unreadable t m d e f = unless_follows unreadable (form_rows m) _ _ (unless_follows t (header_rows m.header) _ _ f)

  opened_follows : (h : History) (l : Letter) (ask : Ask) (now : ℕ) (w : List ℕ) → IsAskOf l ask → Follows fail to (looked_opened (look_of h ask now) (name_of h) l (Repeats 0)) (opened (record { history = h; time = event_time h now; words = w }) l)
  opened_follows h l ask now w a = by_body (is_nested l.message.body) refl
    where
      by_body : (b : Bool) → is_nested l.message.body ≡ b → Follows fail to (looked_opened (look_of h ask now) (name_of h) l (Repeats 0)) (opened (record { history = h; time = event_time h now; words = w }) l)
      by_body true is =
          let at : (P : Facts → Type 0) → P (subject_of l) → P l.inner = λ P p. subst (λ b. P (cond b l.inner l.message)) is p in
          let inside : Follows fail to (looked_passed (look_of h ask now) (name_of h) l.inner (Repeats 0)) (passed (record { history = h; time = event_time h now; words = w }) l.inner) =
          passed_follows h ask now w l.inner (at (λ m. m.digest ≡ ask.digest) a.digest) (at (λ m. tid_of m.header ≡ ask.tid) a.tid) (at (λ m. m.header.kind ≡ ask.kind) a.kind) (at (λ m. m.header.kid ≡ ask.kid) a.kid) in
          let asked : (k : Kind) → l.message.header.kind ≡ Some k → outer_standing h ask.outer (event_time h now) ≡ standing_now h (event_time h now) l.message = λ k e. rw (a.outer k is e, e) refl in
          rw is (outer_follows (outer_standing h ask.outer (event_time h now)) (standing_now h (event_time h now) l.message) l.message.header.kind (skew_of h) (event_time h now) l.message _ _ refl asked
          (λ o. unless_follows (guarded true l.message o) (wrap_rows l.message o) _ _ (read_follows (guarded true l.message o) (bare false) l.inner _ _ inside)))
      by_body false is =
          let at : (P : Facts → Type 0) → P (subject_of l) → P l.message = λ P p. subst (λ b. P (cond b l.inner l.message)) is p in
          rw is (passed_follows h ask now w l.message (at (λ m. m.digest ≡ ask.digest) a.digest) (at (λ m. tid_of m.header ≡ ask.tid) a.tid) (at (λ m. m.header.kind ≡ ask.kind) a.kind) (at (λ m. m.header.kid ≡ ask.kid) a.kid))

pub look_refuses : (h : History) (l : Letter) (ask : Ask) (now : ℕ) (w : List ℕ) (fail : FailInfo) (to : To) → IsAskOf l ask → IsRefusedByLook (look_of h ask now) (name_of h) l fail to → decision h l now w ≡ Refuses fail to
look_refuses h l ask now w fail to a refused = read_follows fail to (bare false) (bare (is_nested l.message.body)) l.message _ _ (opened_follows fail to h l ask now w a) (refused (Repeats 0))

-- ---- to whom

-- nobody's secret, or the one that the look tells
abbrev pub IsLookedTo : Ask → Look → To → Type 0
IsLookedTo ask look to = to ≡ looked_to ask look to.outer (is_some to.guard)

inner_guard : (ask : Ask) (look : Look) (kind : Option Kind) (kid : List ℕ) (o : Owner) → kid ≡ ask.kid → look.cred ≡ Good o.who o.key o.rights → IsLookedTo ask look (record { outer = false; guard = guard_by kind kid o })
inner_guard ask look (Some Mac) kid o e g = rw (e, g) refl
inner_guard ask look (Some Lms) kid o e g = refl
inner_guard ask look None kid o e g = refl

outer_guard : (ask : Ask) (look : Look) (kind : Option Kind) (kid : List ℕ) (o : Owner) → ((k : Kind) → kind ≡ Some k → ask.outer ≡ Some (k, kid)) → look.outer ≡ Good o.who o.key o.rights → IsLookedTo ask look (record { outer = true; guard = guard_by kind kid o })
outer_guard ask look (Some Mac) kid o e g = rw (e Mac refl, g) refl
outer_guard ask look (Some Lms) kid o e g = refl
outer_guard ask look None kid o e g = refl

about_to : (ask : Ask) (look : Look) (name : List ℕ) (to : To) (o : Owner) (body : Body) → IsLookedTo ask look to → Goes (IsLookedTo ask look) (λ n. Unit {0}) (looked_about look name to o body (Repeats 0))
about_to ask look name to o (Enrols e) r = unless_goes (IsLookedTo ask look) (λ n. Unit {0}) to (new_rows look.tid_state ++ wish_rows name o e) _ r tt
about_to ask look name to o (Confirms f) r = unless_goes (IsLookedTo ask look) (λ n. Unit {0}) to (old_rows look.tid_state) _ r tt
about_to ask look name to o (Polls p) r = unless_goes (IsLookedTo ask look) (λ n. Unit {0}) to (old_rows look.tid_state) _ r tt
about_to ask look name to o (Withdraws a) r = unless_goes (IsLookedTo ask look) (λ n. Unit {0}) to (new_rows look.tid_state ++ reason_rows name a) _ r tt
about_to ask look name to o (Nests count) r = r
about_to ask look name to o OtherBody r = r

passed_to : (ask : Ask) (look : Look) (name : List ℕ) (m : Facts) → m.header.kid ≡ ask.kid → Goes (IsLookedTo ask look) (λ n. Unit {0}) (looked_passed look name m (Repeats 0))
passed_to ask look name m kid = repeated_goes (IsLookedTo ask look) (λ n. Unit {0}) look.repeat _ (λ new. unless_goes (IsLookedTo ask look) (λ n. Unit {0}) (bare false) (served_rows m) _ refl
    (trusted_by_goes (IsLookedTo ask look) (λ n. Unit {0}) look.cred look.settings.skew look.time false m _ refl (λ o g. inner_guard ask look m.header.kind m.header.kid o kid g)
    (λ o g. about_to ask look name (guarded false m o) o m.body (inner_guard ask look m.header.kind m.header.kid o kid g))))

opened_to : (l : Letter) (ask : Ask) (look : Look) (name : List ℕ) → IsAskOf l ask → Goes (IsLookedTo ask look) (λ n. Unit {0}) (looked_opened look name l (Repeats 0))
opened_to l ask look name a = by_body (is_nested l.message.body) refl
  where
    by_body : (b : Bool) → is_nested l.message.body ≡ b → Goes (IsLookedTo ask look) (λ n. Unit {0}) (looked_opened look name l (Repeats 0))
    by_body true is =
        let guard : (o : Owner) → look.outer ≡ Good o.who o.key o.rights → IsLookedTo ask look (guarded true l.message o) = λ o g. outer_guard ask look l.message.header.kind l.message.header.kid o (λ k e. a.outer k is e) g in
        let kid : l.inner.header.kid ≡ ask.kid = subst (λ b. (cond b l.inner l.message).header.kid ≡ ask.kid) is a.kid in
        rw is (trusted_by_goes (IsLookedTo ask look) (λ n. Unit {0}) look.outer look.settings.skew look.time true l.message _ refl guard
        (λ o g. unless_goes (IsLookedTo ask look) (λ n. Unit {0}) (guarded true l.message o) (wrap_rows l.message o) _ (guard o g)
        (read_goes (IsLookedTo ask look) (λ n. Unit {0}) (guarded true l.message o) (bare false) l.inner _ (guard o g) refl (passed_to ask look name l.inner kid))))
    by_body false is = rw is (passed_to ask look name l.message (subst (λ b. (cond b l.inner l.message).header.kid ≡ ask.kid) is a.kid))

pub look_sends : (l : Letter) (ask : Ask) (look : Look) (name : List ℕ) (fail : FailInfo) (to : To) → IsAskOf l ask → IsRefusedByLook look name l fail to → to ≡ looked_to ask look to.outer (is_some to.guard)
look_sends l ask look name fail to a refused = sent_to (IsLookedTo ask look) (looked look name l (Repeats 0)) fail to
    (read_goes (IsLookedTo ask look) (λ n. Unit {0}) (bare false) (bare (is_nested l.message.body)) l.message _ refl refl (opened_to l ask look name a)) (refused (Repeats 0))
