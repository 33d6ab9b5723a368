-- What a reply says of the history in which its message was decided.
use Rattle.std.proofs.Common.{◌≡◌, ℕ, suc, ◌<◌, ◌≤◌, ◌⊎◌, Bool, true, false, List, [], ◌∷◌, ◌++◌, length, replicate, Option, Some, None, refl, sym, ap, subst, ◌∙◌, inl, inr, ⊎_elim, append_assoc, length-append, arith}
use Rattle.std.specs.Prelude.{is_some, IfSome}
use Rattle.std.proofs.lemmas.List.{append-nil}
use Rattle.std.proofs.lemmas.Option.{same_Some}
use Rattle.cmp_ports.specs.Faults.{Rose}
use Rattle.cmp_values.specs.declared.fail_info.FailInfo.{FailInfo}
use Rattle.cmp_values.specs.declared.fail_info.FailInfo.TheVariants.{SystemFailure}
use Rattle.cmp_ports.specs.declared.note.Answered.{Answered}
use Rattle.cmp_ports.specs.declared.note.Note.{Note}
use Rattle.cmp_ports.specs.declared.note.Outcome.TheVariants as outcome
use Rattle.deal_changes.specs.declared.change.Change.{Change}
use Rattle.deal_changes.specs.declared.change.Settings.{Settings}
use Rattle.deal_changes.specs.declared.change.Stamp.{Stamp}
use Rattle.deal_changes.specs.Times.{stamp_of, time_of_change}
use Rattle.deal_model.specs.declared.asking.Ask.{Ask}
use Rattle.deal_model.specs.declared.asking.Checked.{Checked}
use Rattle.deal_model.specs.declared.asking.Echo.{Echo}
use Rattle.deal_model.specs.Keys.{leaves_of}
use Rattle.deal_model.specs.Views.{History, settings_of}
use Rattle.deal_table.specs.Carry.{carried_to}
use Rattle.deal_table.specs.History.{Receipted, Begins, IsFounded, receipt_at, grant_receipt, event_time, look_of}
use Rattle.deal_table.specs.Looked.{looked_to}
use Rattle.deal_table.specs.Message.{Letter, is_nested, Echoed, echo_of, echo_to, echoed}
use Rattle.deal_table.specs.Table.{To, Makes, Repeats, Refuses, bare, decision}
use Rattle.deal_table.specs.declared.look.Look.{Look}
use Rattle.desk.specs.declared.clerk.Clerk.{Ghosts}
use Rattle.desk.specs.declared.verdict.Verdict.{Verdict}
use Rattle.desk.specs.declared.verdict.Verdict.TheVariants as verdict
use Rattle.desk.specs.Verdicts.{Decides}
use Rattle.intake.specs.Fit.{IsUnfit}
use Rattle.intake.specs.Intake.{IsStopped, IsRequest}
use Rattle.intake.specs.declared.request.Request.{Request}
use Rattle.intake.specs.declared.unfit.Unfit.{Unfit}
use Rattle.intake.specs.declared.unfit.Unfit.TheVariants as unfit
use Rattle.cert_maker.specs.Certificates.{IsGrant}
use Rattle.reply_maker.specs.InForce.{IsInForce}
use Rattle.reply_maker.specs.Keys.{are_blank}
use Rattle.reply_maker.specs.Refusals.{refusal_of}
use Rattle.reply_maker.specs.Replies.{Replier, reply_of, certificate_hash}
use Rattle.reply_maker.proofs.InForceLemmas.{in_force_out, grant_in_force_out, filled_out}
use Rattle.front.specs.Answers.{ForLetter, IsDecision, addressed, IsReplyAt}
use Rattle.front.specs.Clerks.{Clerked, clerked, IsAlone, IsLawful}
use Rattle.front.specs.Courses.{IsAsked, IsRuled, echo_in, IsFailed, IsRefused, IsTurned, IsSealed, IsSealable, IsFinished, IsResponse, IsHanded, failed_of}
use Rattle.front.specs.Ends.{IsClear, IsReplyFor, IsReplied, IsUnanswered, IsIdle, IsEnd, failed_in}
use Rattle.front.specs.Fronts.{HasSettings}
use Rattle.front.specs.declared.reply.Reply.{Reply}
use Rattle.front.proofs.Decided.{Known, same_known, bytes_known, le_known}
use Rattle.front.proofs.Joins.{begins_itself, begins_so, begins_on, settings_by}
use Rattle.front.proofs.Letters.{some_letter, stable, by_letter}
use Rattle.front.proofs.Rulings.{true_known}

-- ---- the last of a list

last_of : {X : Type 0} (y : X) (ys : List X) → (front : List X) × (x : X) × (y ∷ ys ≡ front ++ x ∷ [])
last_of y [] = ([], y, refl)
last_of y (z ∷ zs) = let s = last_of z zs in (y ∷ s.0, s.1, ap (λ (t : List _). y ∷ t) s.2)

heads : {X : Type 0} (x y : X) (xs ys : List X) → x ∷ xs ≡ y ∷ ys → x ≡ y
heads x y xs ys e = cc

tails : {X : Type 0} (x y : X) (xs ys : List X) → x ∷ xs ≡ y ∷ ys → xs ≡ ys
tails x y xs ys e = cc

-- lists with one behind them
fronts : {X : Type 0} (a b : List X) (x y : X) → a ++ x ∷ [] ≡ b ++ y ∷ [] → (a ≡ b) × (x ≡ y)
fronts [] [] x y e = (refl, heads x y [] [] e)
fronts [] (b ∷ bs) x y e = absurd (short bs y (tails x b [] (bs ++ y ∷ []) e))
  where
    short : {X : Type 0} (bs : List X) (y : X) → [] ≡ bs ++ y ∷ [] → ⊥
    short [] y e = cc
    short (b ∷ bs) y e = cc
fronts (a ∷ xs) [] x y e = absurd (long xs x (tails a y (xs ++ x ∷ []) [] e))
  where
    long : {X : Type 0} (xs : List X) (x : X) → xs ++ x ∷ [] ≡ [] → ⊥
    long [] x e = cc
    long (a ∷ xs) x e = cc
fronts (a ∷ xs) (b ∷ bs) x y e =
    let s = fronts xs bs x y (tails a b (xs ++ x ∷ []) (bs ++ y ∷ []) e) in
    (ap (λ (t : List _). a ∷ t) s.0 ∙ ap (λ h. h ∷ bs) (heads a b (xs ++ x ∷ []) (bs ++ y ∷ []) e), s.1)

-- ---- what is in force

-- by numbers alone, so that it is settled by computing
within : {X : Type 0} (o : Option X) (P : X → Type 0) → ((x : X) → Known (P x)) → ((IfSome o P → ⊥) → ⊥) → IfSome o P
within None P each never = tt
within (Some x) P each never = stable (each x) never

stable_force : (s : Settings) (r : Receipted) → ((IsInForce s r → ⊥) → ⊥) → IsInForce s r
stable_force s r never = record {
  kept = record { timely = stable (le_known _ _) (λ q. never (λ f. q f.kept.timely)); sized = stable (le_known _ _) (λ q. never (λ f. q f.kept.sized)) };
  issued = stable (le_known _ _) (λ q. never (λ f. q f.issued));
  signed = within (stamp_of r.change) (λ t. IfSome t.leaf (λ l. l < leaves_of s.reply_key)) (λ t. leaf_known t.leaf) (λ q. never (λ f. q f.signed));
  secret = secret_of (stamp_of r.change) (λ q. never (λ f. q f.secret));
}
  where
    leaf_known : (leaf : Option ℕ) → Known (IfSome leaf (λ l. l < leaves_of s.reply_key))
    leaf_known None = inl tt
    leaf_known (Some l) = le_known _ _

    secret_of : (o : Option Stamp) → ((IfSome o (λ t. t.leaf ≡ None → length r.key ≤ 64) → ⊥) → ⊥) → IfSome o (λ t. t.leaf ≡ None → length r.key ≤ 64)
    secret_of None never = tt
    secret_of (Some t) never = λ e. stable (le_known _ _) (λ q. never (λ f. q (f e)))

-- ---- what a verdict says, whatever letter the octets are

-- a change that was made behind what the clerk had seen
record IsBehind (k : Replier) (b : List ℕ) (mid new : History) (now : ℕ) (w : List ℕ) (r : Receipted) : Type 0 where
  before : History
  change : Change
  begun : Begins mid before
  grown : new ≡ before ++ change ∷ []
  decided : IsDecision k b before now w (Makes change)
  time : time_of_change r.change ≡ event_time before now
  place : r.place ≡ length new
  same : ForLetter k b (λ l. change ≡ r.change)

longer : (mid before new : History) (c : Change) → Begins mid before → new ≡ before ++ c ∷ [] → suc (length mid) ≤ length new
longer mid before new c (more, e) grown = omega (arith, ap length grown, ap length e, length-append before (c ∷ []), length-append mid more)

module _ (k : Replier) (b : List ℕ) (c : Checked) (mid new : History) (now : ℕ) (w : List ℕ) where
  module _ (r : Receipted) (decides : ForLetter k b (λ l. Decides l c mid new now w (verdict.Done r))) where
    behind_as : (front : History) (x : Change) → Begins mid front → new ≡ front ++ x ∷ [] → IsBehind k b mid new now w r
    behind_as front x begun e = record {
      before = front;
      change = x;
      begun = begun;
      grown = e;
      decided = λ l letter. let d = decides l letter in let s = fronts d.before front r.change x (sym d.made.grown ∙ e) in
          ap (addressed l) (subst (λ (h : History). decision h l now w ≡ Makes x) s.0 (d.decided ∙ ap Makes s.1));
      time = by_letter (certificate_hash k) b (same_known _ _) (λ l letter. let d = decides l letter in let s = fronts d.before front r.change x (sym d.made.grown ∙ e) in
          d.made.time ∙ ap (λ (h : History). event_time h now) s.0);
      place = by_letter (certificate_hash k) b (same_known _ _) (λ l letter. (decides l letter).made.place);
      same = λ l letter. let d = decides l letter in sym (fronts d.before front r.change x (sym d.made.grown ∙ e)).1;
    }

    behind_by : (more : List Change) → new ≡ mid ++ more → suc (length mid) ≤ length new → IsBehind k b mid new now w r
    behind_by [] e long = absurd (omega (arith, ap length e, ap length (append-nil mid)))
    behind_by (y ∷ ys) e long = let s = last_of y ys in
        behind_as (mid ++ s.0) s.1 (s.0, refl) (e ∙ ap (λ (t : History). mid ++ t) s.2 ∙ sym (append_assoc mid s.0 (s.1 ∷ [])))

    behind : Begins mid new → IsBehind k b mid new now w r
    behind (more, e) = behind_by more e (by_letter (certificate_hash k) b (le_known _ _) (λ l letter. let d = decides l letter in longer mid d.before new r.change d.begun d.made.grown))

  -- a reply by a receipt that stands at a place
  reply_by : (place : ℕ) (r : Receipted) (octets : List ℕ) → ForLetter k b (λ l. receipt_at new place ≡ Some r) → octets ≡ reply_of k r → IsReplyAt k new place octets
  reply_by place r octets stands sealed = by_found (receipt_at new place) refl (by_letter (certificate_hash k) b (true_known _) (λ l letter. ap is_some (stands l letter)))
    where
      by_found : (found : Option Receipted) → receipt_at new place ≡ found → is_some (receipt_at new place) ≡ true → IsReplyAt k new place octets
      by_found None e some = absurd (let f : false ≡ true = ap is_some (sym e) ∙ some in cc)
      by_found (Some x) e some = record {
        receipt = x;
        stands = e;
        sealed = by_letter (certificate_hash k) b (bytes_known _ _) (λ l letter. sealed ∙ ap (reply_of k) (same_Some r x (sym (stands l letter) ∙ e)));
      }

  -- the change at a place of a legal history is in force
  force_by : (place : ℕ) (r : Receipted) (s : Settings) (k_lawful : Clerked) → k_lawful.seen ≡ new → IsLawful k_lawful → settings_of new ≡ s → ForLetter k b (λ l. receipt_at new place ≡ Some r) → IsInForce s r
  force_by place r s clerk e lawful settings stands = stable_force s r (λ never. some_letter (certificate_hash k) b (λ l letter.
      never (subst (λ (x : Settings). IsInForce x r) settings (subst (λ (h : History). IsInForce (settings_of h) r) e (in_force_out clerk.seen place r lawful (subst (λ (h : History). receipt_at h place ≡ Some r) (sym e) (stands l letter)))))))

-- the reply can be made, whose change a verdict tells
pub sealable : (k : Replier) (b : List ℕ) (c : Checked) (mid new : History) (now : ℕ) (w : List ℕ) (s : Settings) (clerk : Clerked) (v : Verdict) → clerk.seen ≡ new → IsLawful clerk → settings_of new ≡ s
    → ForLetter k b (λ l. Decides l c mid new now w v) → IsSealable s v
sealable k b c mid new now w s clerk (verdict.Done r) e lawful settings decides = force_by k b c mid new now w (length new) r s clerk e lawful settings (λ l letter. (decides l letter).made.receipt)
sealable k b c mid new now w s clerk (verdict.Again r place time) e lawful settings decides = force_by k b c mid new now w r.place r s clerk e lawful settings (λ l letter. (decides l letter).1)
sealable k b c mid new now w s clerk (verdict.Refused fail place time is_guarded to_outer) e lawful settings decides = tt
sealable k b c mid new now w s clerk (verdict.Stale place) e lawful settings decides = tt
sealable k b c mid new now w s clerk verdict.DiskFault e lawful settings decides = tt
sealable k b c mid new now w s clerk verdict.NoMemory e lawful settings decides = tt

-- ---- replies

-- what is noted is what is said of it
noted : (k : Replier) (b : List ℕ) (old new : Clerked) (now : ℕ) (w : List ℕ) (note : Note) (reply : Reply) → reply.note ≡ note → IsReplyFor k b old new now w note reply.octets note.outcome → IsResponse k b old new now (Some w) (Some reply)
noted k b old new now w note reply e is = subst (λ (n : Note). IsReplyFor k b old new now w n reply.octets n.outcome) (sym e) is

-- a refusal repeats what the message says that it answers
echo_is : (k : Replier) (b : List ℕ) (r : Request) → IsRequest b r → (outer : Bool) → ForLetter k b (λ l. echo_in r outer ≡ echo_to l outer)
echo_is k b r asks true = λ l letter. asks.outer (certificate_hash k) l letter
echo_is k b r asks false = λ l letter. asks.inner (certificate_hash k) l letter

-- what a clerk is clear of that was asked
clear_of_asked : {K : Type 0} (g : Ghosts K) (old new : K) → IsAsked g old new → IsClear (clerked g old) (clerked g new)
clear_of_asked g old new asked = record { faults = asked.faults; doubt = λ alone. inr asked.doubt }

module _ {K : Type 0} (g : Ghosts K) (k : Replier) (b : List ℕ) (old mid new : K) (now : ℕ) (w : List ℕ) (r : Request) (asks : IsRequest b r) (look : Look) (is_look : look ≡ look_of (g.seen mid) r.ask now) (asked : IsAsked g old mid) where
  mid_alone : IsAlone (clerked g old) → IsAlone (clerked g mid)
  mid_alone alone = ap (λ h. h.table) asked.held ∙ alone

  -- after a decision that no failure of the disk ends
  clear_by : g.faults new ≡ g.faults mid → (IsAlone (clerked g mid) → (g.doubt new ≡ None) ⊎ (g.doubt new ≡ g.doubt mid)) → IsClear (clerked g old) (clerked g new)
  clear_by faults doubt = record { faults = faults ∙ asked.faults; doubt = λ alone. ⊎_elim (λ none. inl none) (λ same. inr (same ∙ asked.doubt)) (doubt (mid_alone alone)) }

  done : (c : Checked) (receipt : Receipted) (reply : Reply) → IsRuled g k b mid new now w c (verdict.Done receipt) → IsSealed k receipt receipt.place (time_of_change receipt.change) w outcome.Done reply → IsResponse k b (clerked g old) (clerked g new) now (Some w) (Some reply)
  done c receipt reply rules seals = noted k b (clerked g old) (clerked g new) now w _ reply seals.note (record {
    answered = record {
      before = it.before;
      what = Makes it.change;
      begun = begins_on (g.seen old) (g.seen mid) it.before asked.grown it.begun;
      upto = begins_so (sym it.grown);
      decided = it.decided;
      outcome = refl;
      place = it.place ∙ ap length it.grown;
      time = it.time;
      words = refl;
      answer = subst (λ (h : History). IsReplyAt k h (length h) reply.octets) it.grown (reply_by k b c (g.seen mid) (g.seen new) now w (length (g.seen new)) receipt reply.octets (λ l letter. (rules.decides l letter).made.receipt) seals.octets);
    };
    mine = rules.mine ∙ ap (λ (x : List ℕ). x ++ receipt.place ∷ []) asked.mine;
    alone = λ alone. ((fronts it.before (g.seen mid) it.change receipt.change (sym it.grown ∙ rules.alone (mid_alone alone))).0 ∙ asked.alone alone, it.grown);
    clear = clear_by (rules.kept (λ e. cc e)) (λ alone. inl (rules.clears alone));
    settled = λ alone. rules.clears (mid_alone alone);
  })
    where
      it : IsBehind k b (g.seen mid) (g.seen new) now w receipt
      it = behind k b c (g.seen mid) (g.seen new) now w receipt rules.decides rules.goes.grown

  -- made, and not answered for want of memory
  done_spent : (c : Checked) (receipt : Receipted) → IsRuled g k b mid new now w c (verdict.Done receipt) → IsUnanswered k b (clerked g old) (clerked g new) now w
  done_spent c receipt rules = record {
    made = record { before = it.before; change = it.change; begun = begins_on (g.seen old) (g.seen mid) it.before asked.grown it.begun; upto = begins_so (sym it.grown); decided = it.decided };
    mine = rules.mine ∙ ap (λ (x : List ℕ). x ++ receipt.place ∷ []) asked.mine ∙ ap (λ (n : ℕ). g.mine old ++ n ∷ []) (it.place ∙ ap length it.grown);
    alone = λ alone. ((fronts it.before (g.seen mid) it.change receipt.change (sym it.grown ∙ rules.alone (mid_alone alone))).0 ∙ asked.alone alone, it.grown);
    clear = clear_by (rules.kept (λ e. cc e)) (λ alone. inl (rules.clears alone));
    settled = λ alone. rules.clears (mid_alone alone);
  }
    where
      it : IsBehind k b (g.seen mid) (g.seen new) now w receipt
      it = behind k b c (g.seen mid) (g.seen new) now w receipt rules.decides rules.goes.grown

  again : (c : Checked) (receipt : Receipted) (place time : ℕ) (reply : Reply) → IsRuled g k b mid new now w c (verdict.Again receipt place time) → IsSealed k receipt place time w outcome.Again reply → IsResponse k b (clerked g old) (clerked g new) now (Some w) (Some reply)
  again c receipt place time reply rules seals = noted k b (clerked g old) (clerked g new) now w _ reply seals.note (record {
    answered = record {
      before = g.seen new;
      what = Repeats receipt.place;
      begun = begins_on (g.seen old) (g.seen mid) (g.seen new) asked.grown rules.goes.grown;
      upto = begins_itself (g.seen new);
      decided = λ l letter. ap (addressed l) (rules.decides l letter).0;
      outcome = refl;
      place = by_letter (certificate_hash k) b (same_known _ _) (λ l letter. (rules.decides l letter).2.0);
      time = by_letter (certificate_hash k) b (same_known _ _) (λ l letter. (rules.decides l letter).2.1);
      words = refl;
      answer = reply_by k b c (g.seen mid) (g.seen new) now w receipt.place receipt reply.octets (λ l letter. (rules.decides l letter).1) seals.octets;
    };
    mine = rules.mine ∙ ap (λ (x : List ℕ). x ++ []) asked.mine;
    alone = λ alone. (rules.alone (mid_alone alone) ∙ asked.alone alone, refl);
    clear = clear_by (rules.kept (λ e. cc e)) (λ alone. inl (rules.clears alone));
    settled = λ alone. rules.clears (mid_alone alone);
  })

  refused : (c : Checked) (fail : FailInfo) (place time : ℕ) (is_guarded to_outer : Bool) (reply : Reply) → IsRuled g k b mid new now w c (verdict.Refused fail place time is_guarded to_outer) → IsRefused k r place time w fail (carried_to c to_outer is_guarded) reply
      → IsResponse k b (clerked g old) (clerked g new) now (Some w) (Some reply)
  refused c fail place time is_guarded to_outer reply rules is = noted k b (clerked g old) (clerked g new) now w _ reply is.note (record {
    answered = record {
      before = g.seen new;
      what = Refuses fail (carried_to c to_outer is_guarded);
      begun = begins_on (g.seen old) (g.seen mid) (g.seen new) asked.grown rules.goes.grown;
      upto = begins_itself (g.seen new);
      decided = λ l letter. ap (addressed l) (rules.decides l letter).0;
      outcome = refl;
      place = by_letter (certificate_hash k) b (same_known _ _) (λ l letter. (rules.decides l letter).1.0);
      time = moment;
      words = refl;
      answer = λ l letter. is.octets
          ∙ ap (λ (e : Echoed). refusal_of k.keys e fail (carried_to c to_outer is_guarded).guard time (Some w)) (echo_is k b r asks to_outer l letter)
          ∙ ap (λ (t : ℕ). refusal_of k.keys (echo_to l to_outer) fail (carried_to c to_outer is_guarded).guard t (Some w)) moment;
    };
    mine = rules.mine ∙ ap (λ (x : List ℕ). x ++ []) asked.mine;
    alone = λ alone. (rules.alone (mid_alone alone) ∙ asked.alone alone, refl);
    clear = clear_by (rules.kept (λ e. cc e)) (λ alone. inl (rules.clears alone));
    settled = λ alone. tt;
  })
    where
      moment : time ≡ event_time (g.seen new) now
      moment = by_letter (certificate_hash k) b (same_known _ _) (λ l letter. (rules.decides l letter).1.1)

  disk_down : (c : Checked) (reply : Reply) → IsRuled g k b mid new now w c verdict.DiskFault → IsFailed k r.outer_echo look w reply → IsResponse k b (clerked g old) (clerked g new) now (Some w) (Some reply)
  disk_down c reply rules is = noted k b (clerked g old) (clerked g new) now w _ reply is.note (record {
    down = record {
      failure = record {
        known = g.seen mid;
        begun = asked.grown;
        upto = rules.goes.grown;
        outcome = refl;
        place = ap (λ (x : Look). x.place) is_look;
        time = ap (λ (x : Look). x.time) is_look;
        answer = λ l letter. is.octets
            ∙ ap (λ (e : Echoed). refusal_of k.keys e SystemFailure None look.time None) (asks.outer (certificate_hash k) l letter)
            ∙ ap (λ (t : ℕ). refusal_of k.keys (echo_of l.message.header) SystemFailure None t None) (ap (λ (x : Look). x.time) is_look);
      };
      mine = rules.mine ∙ append-nil (g.mine mid) ∙ asked.mine;
      alone = λ alone. (asked.alone alone, rules.alone (mid_alone alone) ∙ asked.alone alone);
    };
    words = refl;
    rose = subst (λ (n : ℕ). Rose n (g.faults new)) asked.faults (rules.fault refl);
    doubtful = λ alone. rules.clears (mid_alone alone);
  })

  -- by its verdict
  pub replied : (c : Checked) (v : Verdict) (reply : Reply) → IsRuled g k b mid new now w c v → IsFinished k r c look w v reply → IsResponse k b (clerked g old) (clerked g new) now (Some w) (Some reply)
  replied c (verdict.Done receipt) reply rules is = done c receipt reply rules is
  replied c (verdict.Again receipt place time) reply rules is = again c receipt place time reply rules is
  replied c (verdict.Refused fail place time is_guarded to_outer) reply rules is = refused c fail place time is_guarded to_outer reply rules is
  replied c (verdict.Stale place) reply rules is = absurd is
  replied c verdict.DiskFault reply rules is = disk_down c reply rules is
  replied c verdict.NoMemory reply rules is = absurd is

  idle : g.mine new ≡ g.mine mid ++ [] → (IsAlone (clerked g mid) → g.seen new ≡ g.seen mid) → IsClear (clerked g old) (clerked g new) ⊎ Rose (g.faults old) (g.faults new) → IsIdle (clerked g old) (clerked g new)
  idle mine alone clear = record { mine = mine ∙ append-nil (g.mine mid) ∙ asked.mine; alone = λ a. alone (mid_alone a) ∙ asked.alone a; clear = clear }

  pub spent : (c : Checked) (v : Verdict) → IsRuled g k b mid new now w c v → IsResponse k b (clerked g old) (clerked g new) now (Some w) None
  spent c (verdict.Done receipt) rules = inr (done_spent c receipt rules)
  spent c (verdict.Again receipt place time) rules = inl (idle rules.mine rules.alone (inl (clear_by (rules.kept (λ e. cc e)) (λ alone. inl (rules.clears alone)))))
  spent c (verdict.Refused fail place time is_guarded to_outer) rules = inl (idle rules.mine rules.alone (inl (clear_by (rules.kept (λ e. cc e)) (λ alone. inl (rules.clears alone)))))
  spent c (verdict.Stale place) rules = inl (idle rules.mine rules.alone (inl (clear_by (rules.kept (λ e. cc e)) (λ alone. inl (rules.clears alone)))))
  spent c verdict.DiskFault rules = inl (idle rules.mine rules.alone (inr (subst (λ (n : ℕ). Rose n (g.faults new)) asked.faults (rules.fault refl))))
  spent c verdict.NoMemory rules = inl (idle rules.mine rules.alone (inl (clear_by (rules.kept (λ e. cc e)) rules.clears)))

-- ---- refusals without a decision

module _ {K : Type 0} (g : Ghosts K) (k : Replier) (b : List ℕ) (old new : K) (now : ℕ) (w : List ℕ) (asked : IsAsked g old new) where
  -- refused at the history of a look
  looked : (ask : Ask) (look : Look) (fail : FailInfo) (to : To) (reply : Reply) → look ≡ look_of (g.seen new) ask now → IsDecision k b (g.seen new) now w (Refuses fail to)
      → reply.note ≡ record { place = look.place; time = look.time; words = w; outcome = outcome.Refused fail }
      → ForLetter k b (λ l. reply.octets ≡ refusal_of k.keys (echo_to l to.outer) fail to.guard look.time (Some w))
      → IsResponse k b (clerked g old) (clerked g new) now (Some w) (Some reply)
  looked ask look fail to reply is_look decided is_note octets = noted k b (clerked g old) (clerked g new) now w _ reply is_note (record {
    answered = record {
      before = g.seen new;
      what = Refuses fail to;
      begun = asked.grown;
      upto = begins_itself (g.seen new);
      decided = decided;
      outcome = refl;
      place = ap (λ (x : Look). x.place) is_look;
      time = ap (λ (x : Look). x.time) is_look;
      words = refl;
      answer = λ l letter. octets l letter ∙ ap (λ (t : ℕ). refusal_of k.keys (echo_to l to.outer) fail to.guard t (Some w)) (ap (λ (x : Look). x.time) is_look);
    };
    mine = asked.mine ∙ sym (append-nil (g.mine old));
    alone = λ alone. (asked.alone alone, refl);
    clear = clear_of_asked g old new asked;
    settled = λ alone. tt;
  })

  pub turned : (r : Request) (look : Look) (u : Unfit) (reply : Reply) → IsRequest b r → IsFounded (g.seen new) → look ≡ look_of (g.seen new) r.ask now → IsUnfit b r.ask look u → IsTurned k r look w u reply
      → IsResponse k b (clerked g old) (clerked g new) now (Some w) (Some reply)
  turned r look (unfit.Refused fail is_guarded to_outer) reply asks founded is_look is_unfit is = looked r.ask look fail (looked_to r.ask look to_outer is_guarded) reply is_look
      (λ l letter. ap (addressed l) (is_unfit (certificate_hash k) l (g.seen new) now letter founded is_look w)) is.note
      (λ l letter. is.octets ∙ ap (λ (e : Echoed). refusal_of k.keys e fail (looked_to r.ask look to_outer is_guarded).guard look.time (Some w)) (echo_is k b r asks to_outer l letter))
  turned r look unfit.NoMemory reply asks founded is_look is_unfit is = absurd is

  bare_as : (l : Letter) (fail : FailInfo) (nested : Bool) → nested ≡ is_nested l.message.body → addressed l (Refuses fail (bare nested)) ≡ addressed l (Refuses fail (bare true))
  bare_as l fail true e = refl
  bare_as l fail false e = ap (λ (outer : Bool). Refuses fail (bare outer)) e

  pub stopped : (ask : Ask) (look : Look) (fail : FailInfo) (echo : Echo) (reply : Reply) → look ≡ look_of (g.seen new) ask now → IsStopped b fail echo
      → reply.note ≡ record { place = look.place; time = look.time; words = w; outcome = outcome.Refused fail } → reply.octets ≡ refusal_of k.keys (echoed echo) fail None look.time (Some w)
      → IsResponse k b (clerked g old) (clerked g new) now (Some w) (Some reply)
  stopped ask look fail echo reply is_look stops is_note octets = looked ask look fail (bare true) reply is_look
      (λ l letter. ap (addressed l) (stops.refused (certificate_hash k) l letter (g.seen new) now w) ∙ bare_as l fail (is_nested l.message.body) refl) is_note
      (λ l letter. octets ∙ ap (λ (e : Echoed). refusal_of k.keys e fail None look.time (Some w)) (stops.repeated (certificate_hash k) l letter))

  -- memory ran out after the look
  pub idle_spent : IsResponse k b (clerked g old) (clerked g new) now (Some w) None
  idle_spent = inl (record { mine = asked.mine; alone = asked.alone; clear = inl (clear_of_asked g old new asked) })

  pub idle_down : IsResponse k b (clerked g old) (clerked g new) now None None
  idle_down = record { mine = asked.mine; alone = asked.alone; clear = inl (clear_of_asked g old new asked) }

-- no words could be drawn
pub entropy_down : {K : Type 0} (g : Ghosts K) (k : Replier) (b : List ℕ) (old new : K) (now : ℕ) (ask : Ask) (look : Look) (echo : Echo) (reply : Reply) → IsAsked g old new → look ≡ look_of (g.seen new) ask now
    → ForLetter k b (λ l. echoed echo ≡ echo_of l.message.header) → IsFailed k echo look (replicate 32 0) reply → IsResponse k b (clerked g old) (clerked g new) now None (Some reply)
entropy_down g k b old new now ask look echo reply asked is_look repeats is = record {
  down = record {
    failure = record {
      known = g.seen new;
      begun = asked.grown;
      upto = begins_itself (g.seen new);
      outcome = ap (λ (n : Note). n.outcome) is.note;
      place = ap (λ (n : Note). n.place) is.note ∙ ap (λ (x : Look). x.place) is_look;
      time = ap (λ (n : Note). n.time) is.note ∙ ap (λ (x : Look). x.time) is_look;
      answer = λ l letter. is.octets
          ∙ ap (λ (e : Echoed). refusal_of k.keys e SystemFailure None look.time None) (repeats l letter)
          ∙ ap (λ (t : ℕ). refusal_of k.keys (echo_of l.message.header) SystemFailure None t None) (ap (λ (x : Look). x.time) is_look);
    };
    mine = asked.mine;
    alone = λ alone. (asked.alone alone, asked.alone alone);
  };
  words = ap (λ (n : Note). n.words) is.note;
  clear = clear_of_asked g old new asked;
}

-- ---- the end

pub ended : (k : Replier) (b : List ℕ) (old new : Clerked) (now : ℕ) (drawn : Option (List ℕ)) (response : Option Reply) (reply : List ℕ) (end : Answered) → IsResponse k b old new now drawn response → IsHanded response reply end → IsEnd k b old new now drawn end reply
ended k b old new now drawn (Some r) reply end is (same, e) = subst (λ (a : Answered). IsEnd k b old new now drawn a reply) (sym e) (subst (λ (o : List ℕ). IsReplied k b old new now drawn r.note o) (sym same) is)
ended k b old new now drawn None reply end is (same, e) = subst (λ (a : Answered). IsEnd k b old new now drawn a reply) (sym e) (same, is)

pub failed_is : (drawn : Option (List ℕ)) (response : Option Reply) (reply : List ℕ) (end : Answered) → IsHanded response reply end → failed_of response drawn ≡ failed_in end drawn
failed_is drawn (Some r) reply end (same, e) = ap (λ (a : Answered). failed_in a drawn) (sym e)
failed_is drawn None reply end (same, e) = ap (λ (a : Answered). failed_in a drawn) (sym e)

-- ---- what may be sealed

-- the settings' keys are made, in a legal history
pub filled_by : (clerk : Clerked) (s : Settings) → IsLawful clerk → HasSettings clerk.seen s → are_blank s ≡ false
filled_by clerk s lawful has = subst (λ (x : Settings). are_blank x ≡ false) (settings_by clerk.seen s has) (filled_out clerk.seen lawful)

pub granted_force : (clerk : Clerked) (s : Settings) (tid : List ℕ) (r : Receipted) → IsLawful clerk → HasSettings clerk.seen s → grant_receipt clerk.seen tid ≡ Some r → IsInForce s r
granted_force clerk s tid r lawful has e = subst (λ (x : Settings). IsInForce x r) (settings_by clerk.seen s has) (grant_in_force_out clerk.seen tid r lawful e).0

pub granted_is : (clerk : Clerked) (tid : List ℕ) (r : Receipted) → IsLawful clerk → grant_receipt clerk.seen tid ≡ Some r → IsGrant r.change
granted_is clerk tid r lawful e = (grant_in_force_out clerk.seen tid r lawful e).1

-- a clerk that was asked, and no reply
pub idle_response : {K : Type 0} (g : Ghosts K) (k : Replier) (b : List ℕ) (old new : K) (now : ℕ) (drawn : Option (List ℕ)) → IsAsked g old new → IsResponse k b (clerked g old) (clerked g new) now drawn None
idle_response g k b old new now (Some w) asked = inl (record { mine = asked.mine; alone = asked.alone; clear = inl (clear_of_asked g old new asked) })
idle_response g k b old new now None asked = record { mine = asked.mine; alone = asked.alone; clear = inl (clear_of_asked g old new asked) }

-- ---- with or without memory

pub finished_all : {K : Type 0} (g : Ghosts K) (k : Replier) (b : List ℕ) (old mid new : K) (now : ℕ) (w : List ℕ) (r : Request) → IsRequest b r → (look : Look) → look ≡ look_of (g.seen mid) r.ask now → IsAsked g old mid
    → (c : Checked) (v : Verdict) → IsRuled g k b mid new now w c v → (o : Option Reply) → IfSome o (IsFinished k r c look w v) → IsResponse k b (clerked g old) (clerked g new) now (Some w) o
finished_all g k b old mid new now w r asks look is_look asked c v rules (Some reply) is = replied g k b old mid new now w r asks look is_look asked c v reply rules is
finished_all g k b old mid new now w r asks look is_look asked c v rules None is = spent g k b old mid new now w r asks look is_look asked c v rules

pub turned_all : {K : Type 0} (g : Ghosts K) (k : Replier) (b : List ℕ) (old new : K) (now : ℕ) (w : List ℕ) → IsAsked g old new → (r : Request) (look : Look) (u : Unfit) → IsRequest b r → IsFounded (g.seen new) → look ≡ look_of (g.seen new) r.ask now → IsUnfit b r.ask look u
    → (o : Option Reply) → IfSome o (IsTurned k r look w u) → IsResponse k b (clerked g old) (clerked g new) now (Some w) o
turned_all g k b old new now w asked r look u asks founded is_look is_unfit (Some reply) is = turned g k b old new now w asked r look u reply asks founded is_look is_unfit is
turned_all g k b old new now w asked r look u asks founded is_look is_unfit None is = idle_response g k b old new now (Some w) asked

pub stopped_all : {K : Type 0} (g : Ghosts K) (k : Replier) (b : List ℕ) (old new : K) (now : ℕ) (w : List ℕ) → IsAsked g old new → (ask : Ask) (look : Look) (fail : FailInfo) (echo : Echo) (note : Note) → look ≡ look_of (g.seen new) ask now → IsStopped b fail echo
    → note ≡ record { place = look.place; time = look.time; words = w; outcome = outcome.Refused fail } → (o : Option Reply) → IfSome o (λ r. r.note ≡ note) → IfSome o (λ r. r.octets ≡ refusal_of k.keys (echoed echo) fail None note.time (Some w))
    → IsResponse k b (clerked g old) (clerked g new) now (Some w) o
stopped_all g k b old new now w asked ask look fail echo note is_look stops is_note (Some reply) noted octets = stopped g k b old new now w asked ask look fail echo reply is_look stops (noted ∙ is_note)
    (octets ∙ ap (λ (n : Note). refusal_of k.keys (echoed echo) fail None n.time (Some w)) is_note)
stopped_all g k b old new now w asked ask look fail echo note is_look stops is_note None noted octets = idle_response g k b old new now (Some w) asked

pub down_all : {K : Type 0} (g : Ghosts K) (k : Replier) (b : List ℕ) (old new : K) (now : ℕ) (ask : Ask) (look : Look) (echo : Echo) → IsAsked g old new → look ≡ look_of (g.seen new) ask now
    → ForLetter k b (λ l. echoed echo ≡ echo_of l.message.header) → (o : Option Reply) → IfSome o (IsFailed k echo look (replicate 32 0)) → IsResponse k b (clerked g old) (clerked g new) now None o
down_all g k b old new now ask look echo asked is_look repeats (Some reply) is = entropy_down g k b old new now ask look echo reply asked is_look repeats is
down_all g k b old new now ask look echo asked is_look repeats None is = idle_response g k b old new now None asked
