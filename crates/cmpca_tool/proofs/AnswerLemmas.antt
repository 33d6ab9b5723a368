-- How a run of take ends, by how the front answered over a desk of its own.
use Rattle.std.proofs.Common.{◌≡◌, inl, inr, ⊎_elim, ℕ, List, [], ◌∷◌, ◌++◌, Option, Some, None, refl, sym, ◌∙◌, ap, subst}
use Rattle.std.specs.Prelude.{IfSome, codes}
use Rattle.cmp_ports.specs.Coming.{Gives}
use Rattle.cmp_ports.specs.Disk.{LeavesOnly}
use Rattle.cmp_ports.specs.Faults.{Rose}
use Rattle.cmp_ports.specs.Moments.{weaker}
use Rattle.cmp_ports.specs.declared.clock.Clock as clocks
use Rattle.cmp_ports.specs.declared.disk.Disk as disks
use Rattle.cmp_ports.specs.declared.entropy.Entropy as entropies
use Rattle.cmp_values.specs.declared.fail_info.FailInfo.TheVariants.{SystemFailure}
use Rattle.cmp_ports.specs.declared.note.Answered.{Answered}
use Rattle.cmp_ports.specs.declared.note.Answered.TheVariants as answered
use Rattle.cmp_ports.specs.declared.note.Note.{Note}
use Rattle.cmp_ports.specs.declared.note.Outcome.{Outcome}
use Rattle.cmp_ports.specs.declared.note.Outcome.TheVariants as outcome
use Rattle.deal_changes.specs.declared.change.Change.{Change}
use Rattle.deal_model.specs.Views.{History}
use Rattle.deal_model.specs.Rules.{Allowed, Legal}
use Rattle.deal_table.specs.History.{event_time}
use Rattle.deal_table.specs.Message.{echo_of}
use Rattle.deal_table.specs.Table.{Decision, Makes, Repeats, Refuses, Asks}
use Rattle.desk.specs.declared.clerk.Clerk as clerks
use Rattle.desk.specs.declared.desk.Desk.{Desk}
use Rattle.desk.specs.Images.{RecoversWith, DoubtOr, MayCome}
use Rattle.letter_laws.specs.Laws.{HasLetter}
use Rattle.reply_maker.specs.Refusals.{refusal_of}
use Rattle.reply_maker.specs.Replies.{Replier}
use Rattle.front.specs.Answers.{ForLetter, IsDecision, IsAnswer, IsOwn, IsOutcome, after}
use Rattle.front.specs.Clerks.{Held, Clerked, clerked, IsAlone}
use Rattle.front.specs.Ends.{IsReply, IsDown, IsSettled, IsEntropyDown, IsIdle, IsUnanswered, IsReplyFor, IsEnd, failed_by, failed_in}
use Rattle.front.specs.Fronts.{Parts, replier_by, IsCounted, Own, IsFrontAnswer}
use Rattle.front.specs.declared.device.Device.{Device}
use Rattle.cmpca_tool.specs.Changes.{IsStep}
use Rattle.cmpca_tool.specs.Lines.{line}
use Rattle.cmpca_tool.specs.Takes.{EndsAs, Replies, Fails, RunsOut, OwnChange, Ends, EndsUndrawn, EndsBy}
use Rattle.cmpca_tool.specs.Takings.{outcome_status, taken_status, taken_text, IsAnswering}
use Rattle.cmpca_tool.specs.declared.status.Status.TheVariants.{Done, Refused, ReadFault, DiskFault}
use Rattle.cmpca_tool.proofs.StepLemmas.{same_step, own_step}

-- the status is that of what was decided
ends_as : (what : Decision) (o : Outcome) (failed : Option Device) → IsOutcome what o → EndsAs what (outcome_status o failed)
ends_as (Makes c) o failed is = subst (λ (x : Outcome). outcome_status x failed ≡ Done) (sym is) refl
ends_as (Repeats place) o failed is = subst (λ (x : Outcome). outcome_status x failed ≡ Done) (sym is) refl
ends_as (Refuses fail to) o failed is = subst (λ (x : Outcome). outcome_status x failed ≡ Refused) (sym is) refl
ends_as (Asks place) o failed is = is

module _ (k : Replier) (b : List ℕ) (old new : Clerked) (now : ℕ) where
  -- a reply to what was decided
  replies : (w : List ℕ) (note : Note) (reply : List ℕ) (o : Outcome) (failed : Option Device) → IsAlone old → note.outcome ≡ o → IsReply k b old new now w note reply → Replies k b now w old.seen (outcome_status o failed) reply new.seen
  replies w note reply o failed alone is r =
      let what = r.answered.what in
      let a = r.alone alone in
      record {
        what = what;
        decided = subst (λ (h : History). IsDecision k b h now w what) a.0 r.answered.decided;
        ends = subst (λ (x : Outcome). EndsAs what (outcome_status x failed)) is (ends_as what note.outcome failed r.answered.outcome);
        says = subst (λ (h : History). IsAnswer k b h now w what reply) a.0 r.answered.answer;
        grown = a.1 ∙ ap (λ (h : History). after h what) a.0;
      }

  -- a device failed
  fails : (note : Note) (reply : List ℕ) → IsAlone old → IsDown k b old new now note reply → Fails k b now old.seen reply new.seen
  fails note reply alone d =
      let a = d.alone alone in
      record {
        says = subst (λ (h : History). ForLetter k b (λ l. reply ≡ refusal_of k.keys (echo_of l.message.header) SystemFailure None (event_time h now) None)) a.0 d.failure.answer;
        same = a.1;
      }

  -- memory ran out
  idle_out : (Mine : Change → Type 0) → IsAlone old → IsIdle old new → RunsOut Mine old.seen (line (codes "no memory")) new.seen
  idle_out Mine alone i = record { says = refl; left = inl (i.alone alone) }

  made_out : (w : List ℕ) → IsAlone old → IsUnanswered k b old new now w → RunsOut (IsOwn k b old.seen now w) old.seen (line (codes "no memory")) new.seen
  made_out w alone u =
      let a = u.alone alone in
      let c = u.made.change in
      record { says = refl; left = inr (c, subst (λ (h : History). IsOwn k b h now w c) a.0 u.made.decided, a.1 ∙ ap (λ (h : History). h ++ c ∷ []) a.0) }

  -- with words that were drawn, by the outcome
  ends_with : (w : List ℕ) (note : Note) (reply : List ℕ) (o : Outcome) → IsAlone old → note.outcome ≡ o → IsReplyFor k b old new now w note reply o
      → Ends k b now w old.seen (outcome_status o (failed_by o (Some w))) reply new.seen
  ends_with w note reply outcome.Done alone is r = replies w note reply outcome.Done None alone is r
  ends_with w note reply outcome.Again alone is r = replies w note reply outcome.Again None alone is r
  ends_with w note reply (outcome.Refused fail) alone is r = replies w note reply (outcome.Refused fail) None alone is r
  ends_with w note reply outcome.SystemFailure alone is d = fails note reply alone d.down

  -- where none could be drawn
  ends_without : (note : Note) (reply : List ℕ) → IsAlone old → IsEntropyDown k b old new now note reply → EndsUndrawn k b now old.seen (outcome_status note.outcome (failed_by note.outcome None)) reply new.seen
  ends_without note reply alone d =
      subst (λ (o : Outcome). EndsUndrawn k b now old.seen (outcome_status o (failed_by o None)) reply new.seen) (sym d.down.failure.outcome) (fails note reply alone d.down)

  ends_by : (draw : Option (List ℕ)) (end : Answered) (reply : List ℕ) → IsAlone old → IsEnd k b old new now draw end reply
      → EndsBy k b now draw old.seen (taken_status end (failed_in end draw)) (taken_text end reply) new.seen
  ends_by (Some w) (answered.Replied note) reply alone r = ends_with w note reply note.outcome alone refl r
  ends_by None (answered.Replied note) reply alone r = ends_without note reply alone r
  ends_by (Some w) answered.NoMemory reply alone r = ⊎_elim (λ i. idle_out (IsOwn k b old.seen now w) alone i) (λ u. made_out w alone u) r.1
  ends_by None answered.NoMemory reply alone r = idle_out (λ c. ⊥) alone r.1
  ends_by (Some w) answered.Failed reply alone r = absurd r
  ends_by None answered.Failed reply alone r = absurd r

  -- ---- the step of the history

  -- the message's own change, by the words
  abbrev Mine : List ℕ → Change → Type 0
  Mine w = IsOwn k b old.seen now w

  -- the change in doubt is one's own, and may come next
  abbrev Doubts : (Change → Type 0) → Type 0
  Doubts P = IfSome new.doubt (MayCome P old.seen)

  module _ (alone : IsAlone old) (letter : HasLetter b) (lawful : ∥ Legal new.seen × IfSome new.doubt (Allowed new.seen) ∥₁) where
    -- by what was decided
    decided_step : (w : List ℕ) (what : Decision) (o : Outcome) → Doubts (Mine w) → IsDecision k b old.seen now w what → IsOutcome what o → IsSettled o new.doubt → new.seen ≡ after old.seen what → IsStep (Mine w) old.seen new.seen new.doubt
    decided_step w (Makes c) o may decided is settled grown = own_step k b old.seen new.seen new.doubt now w c letter lawful decided grown (subst (λ (x : Outcome). IsSettled x new.doubt) is settled)
    decided_step w (Repeats place) o may decided is settled grown = same_step (Mine w) old.seen new.seen new.doubt grown may
    decided_step w (Refuses fail to) o may decided is settled grown = same_step (Mine w) old.seen new.seen new.doubt grown may
    decided_step w (Asks place) o may decided is settled grown = absurd is

    reply_step : (w : List ℕ) (note : Note) (reply : List ℕ) → Doubts (Mine w) → IsReply k b old new now w note reply → IsStep (Mine w) old.seen new.seen new.doubt
    reply_step w note reply may r =
        let a = r.alone alone in
        let what = r.answered.what in
        decided_step w what note.outcome may (subst (λ (h : History). IsDecision k b h now w what) a.0 r.answered.decided) r.answered.outcome (r.settled alone) (a.1 ∙ ap (λ (h : History). after h what) a.0)

    down_step : (P : Change → Type 0) (note : Note) (reply : List ℕ) → Doubts P → IsDown k b old new now note reply → IsStep P old.seen new.seen new.doubt
    down_step P note reply may d = same_step P old.seen new.seen new.doubt (d.alone alone).1 may

    idle_step : (P : Change → Type 0) → Doubts P → IsIdle old new → IsStep P old.seen new.seen new.doubt
    idle_step P may i = same_step P old.seen new.seen new.doubt (i.alone alone) may

    unanswered_step : (w : List ℕ) → IsUnanswered k b old new now w → IsStep (Mine w) old.seen new.seen new.doubt
    unanswered_step w u =
        let a = u.alone alone in
        let c = u.made.change in
        own_step k b old.seen new.seen new.doubt now w c letter lawful (subst (λ (h : History). IsOwn k b h now w c) a.0 u.made.decided) (a.1 ∙ ap (λ (h : History). h ++ c ∷ []) a.0) (u.settled alone)

    words_step : (w : List ℕ) (note : Note) (reply : List ℕ) (o : Outcome) → Doubts (Mine w) → IsReplyFor k b old new now w note reply o → IsStep (Mine w) old.seen new.seen new.doubt
    words_step w note reply outcome.Done may r = reply_step w note reply may r
    words_step w note reply outcome.Again may r = reply_step w note reply may r
    words_step w note reply (outcome.Refused fail) may r = reply_step w note reply may r
    words_step w note reply outcome.SystemFailure may d = down_step (Mine w) note reply may d.down

    end_step : (draw : Option (List ℕ)) (end : Answered) (reply : List ℕ) → Doubts (OwnChange k b now draw old.seen) → IsEnd k b old new now draw end reply → IsStep (OwnChange k b now draw old.seen) old.seen new.seen new.doubt
    end_step (Some w) (answered.Replied note) reply may r = words_step w note reply note.outcome may r
    end_step None (answered.Replied note) reply may d = down_step (λ c. ⊥) note reply may d.down
    end_step (Some w) answered.NoMemory reply may r = ⊎_elim (idle_step (Mine w) may) (unanswered_step w) r.1
    end_step None answered.NoMemory reply may r = idle_step (λ c. ⊥) may r.1
    end_step (Some w) answered.Failed reply may r = absurd r
    end_step None answered.Failed reply may r = absurd r

  -- ---- the faults of the devices

  disk_by : (w : List ℕ) (note : Note) (reply : List ℕ) (o : Outcome) → IsReplyFor k b old new now w note reply o → outcome_status o (failed_by o (Some w)) ≡ DiskFault → Rose old.faults new.faults
  disk_by w note reply outcome.Done r e = absurd (cc e)
  disk_by w note reply outcome.Again r e = absurd (cc e)
  disk_by w note reply (outcome.Refused fail) r e = absurd (cc e)
  disk_by w note reply outcome.SystemFailure d e = d.rose

  undrawn_status : (note : Note) (reply : List ℕ) → IsEntropyDown k b old new now note reply → outcome_status note.outcome (failed_by note.outcome None) ≡ ReadFault
  undrawn_status note reply d = ap (λ (o : Outcome). outcome_status o (failed_by o None)) d.down.failure.outcome

  disk_rose : (draw : Option (List ℕ)) (end : Answered) (reply : List ℕ) → IsEnd k b old new now draw end reply → taken_status end (failed_in end draw) ≡ DiskFault → Rose old.faults new.faults
  disk_rose (Some w) (answered.Replied note) reply r e = disk_by w note reply note.outcome r e
  disk_rose None (answered.Replied note) reply r e = absurd (cc (undrawn_status note reply r, e))
  disk_rose (Some w) answered.NoMemory reply r e = absurd (cc e)
  disk_rose None answered.NoMemory reply r e = absurd (cc e)
  disk_rose (Some w) answered.Failed reply r e = absurd r
  disk_rose None answered.Failed reply r e = absurd r

  drawn_by : (w : List ℕ) (o : Outcome) → outcome_status o (failed_by o (Some w)) ≡ ReadFault → ⊥
  drawn_by w outcome.Done e = cc e
  drawn_by w outcome.Again e = cc e
  drawn_by w (outcome.Refused fail) e = cc e
  drawn_by w outcome.SystemFailure e = cc e

  -- only where no words could be drawn
  undrawn : (draw : Option (List ℕ)) (end : Answered) (reply : List ℕ) → IsEnd k b old new now draw end reply → taken_status end (failed_in end draw) ≡ ReadFault → draw ≡ None
  undrawn (Some w) (answered.Replied note) reply r e = absurd (drawn_by w note.outcome e)
  undrawn None (answered.Replied note) reply r e = refl
  undrawn (Some w) answered.NoMemory reply r e = absurd (cc e)
  undrawn None answered.NoMemory reply r e = refl
  undrawn (Some w) answered.Failed reply r e = absurd r
  undrawn None answered.Failed reply r e = refl

  never_failed : (draw : Option (List ℕ)) (end : Answered) (reply : List ℕ) → IsEnd k b old new now draw end reply → end ≡ answered.Failed → ⊥
  never_failed draw (answered.Replied note) reply r e = cc e
  never_failed draw answered.NoMemory reply r e = cc e
  never_failed (Some w) answered.Failed reply r e = r
  never_failed None answered.Failed reply r e = r

-- ---- the change in doubt, with nothing in doubt before

own_change : (k : Replier) (b : List ℕ) (h : History) (now : ℕ) (draw : Option (List ℕ)) (c : Change) → Own k b h now draw c → OwnChange k b now draw h c
own_change k b h now (Some w) c own = own
own_change k b h now None c own = own

own_doubt : (k : Replier) (b : List ℕ) (h : History) (now : ℕ) (draw : Option (List ℕ)) (doubt : Option Change) (c : Change) → doubt ≡ None → DoubtOr doubt (MayCome (Own k b h now draw) h) c → MayCome (OwnChange k b now draw h) h c
own_doubt k b h now draw doubt c clear may = ⊎_elim (λ was. absurd (cc (clear, was))) (λ own. (own_change k b h now draw c own.0, own.1)) may

if_some_weaker : {X : Type 0} (P Q : X → Type 0) (o : Option X) → ((x : X) → P x → Q x) → IfSome o P → IfSome o Q
if_some_weaker P Q None less h = tt
if_some_weaker P Q (Some x) less h = less x h

-- A front over a clerk that is alone, and that had nothing in doubt, answered.
module _ {K C E : Type 0} (ks : clerks.Ghosts K) (cs : clocks.Ghosts C) (es : entropies.Ghosts E) (old new : Parts K C E) (b : List ℕ) (end : Answered) (reply : List ℕ) where
  -- what is told of the clerk
  abbrev before : Clerked
  before = clerked ks old.clerk

  abbrev later : Clerked
  later = clerked ks new.clerk

  pub answering : IsAlone (clerked ks old.clerk) → ks.doubt old.clerk ≡ None → IsFrontAnswer ks cs es old b end reply new
      → IsAnswering (replier_by old.keys) b (λ now. Gives (cs.readings old.clock) (cs.readings new.clock) now) (λ draw. Gives (es.draws old.entropy) (es.draws new.entropy) draw) (λ P. LeavesOnly ks.moment ks.left_since old.clerk new.clerk P) (ks.seen old.clerk) (ks.seen new.clerk) (ks.doubt new.clerk) (taken_status end new.failed) (taken_text end reply)
  answering alone clear a =
      let k = replier_by old.keys in
      let h = ks.seen old.clerk in
      let may : IfSome (ks.doubt new.clerk) (MayCome (OwnChange k b a.now a.drawn h) h) = if_some_weaker _ _ (ks.doubt new.clerk) (λ c mine. own_doubt k b h a.now a.drawn (ks.doubt old.clerk) c clear mine) (a.goes.doubt alone) in
      record {
        now = a.now;
        reading = a.reads;
        draw = a.drawn;
        drawn = a.draws;
        letter = a.letter;
        makes = end_step k b before later a.now alone a.letter a.goes.lawful a.drawn end reply may a.end_is;
        ends = subst (λ (f : Option Device). EndsBy k b a.now a.drawn h (taken_status end f) (taken_text end reply) (ks.seen new.clerk)) (sym a.failed) (ends_by k b before later a.now a.drawn end reply alone a.end_is);
        doubt = if_some_weaker _ _ (ks.doubt new.clerk) (λ c own. own.0) may;
        moments = weaker ks.moment ks.left_since old.clerk new.clerk (RecoversWith h (DoubtOr (ks.doubt old.clerk) (MayCome (Own k b h a.now a.drawn) h))) (RecoversWith h (MayCome (OwnChange k b a.now a.drawn h) h)) (a.goes.moments alone)
            (λ image left. ⊎_elim (λ was. inl was) (λ more. inr (more.0, own_doubt k b h a.now a.drawn (ks.doubt old.clerk) more.0 clear more.1, more.2)) left);
      }

  pub fell_disk : IsFrontAnswer ks cs es old b end reply new → taken_status end new.failed ≡ DiskFault → Rose (ks.faults old.clerk) (ks.faults new.clerk)
  fell_disk a e = disk_rose (replier_by old.keys) b before later a.now a.drawn end reply a.end_is (ap (taken_status end) (sym a.failed) ∙ e)

  pub fell_entropy : IsFrontAnswer ks cs es old b end reply new → taken_status end new.failed ≡ ReadFault → Rose (es.faults old.entropy) (es.faults new.entropy)
  fell_entropy a e =
      let none : a.drawn ≡ None = undrawn (replier_by old.keys) b before later a.now a.drawn end reply a.end_is (ap (taken_status end) (sym a.failed) ∙ e) in
      (subst (λ (d : Option (List ℕ)). IsCounted d (es.faults old.entropy) (es.faults new.entropy)) none a.counted).0

  pub answers_always : IsFrontAnswer ks cs es old b end reply new → end ≡ answered.Failed → ⊥
  answers_always a e = never_failed (replier_by old.keys) b before later a.now a.drawn end reply a.end_is e

-- ---- what was lent is back

module _ {F C E : Type 0} (dg : disks.Ghosts F) (readings : C → Option (ℕ → ℕ)) (draws : E → Option (ℕ → Option (List ℕ))) where
  abbrev Told : Replier → List ℕ → Desk F dg → F → History → Option Change → C → C → E → E → Answered → Option Device → List ℕ → Type 0
  Told k b d0 disk h doubt c0 c1 e0 e1 end failed reply = IsAnswering k b (λ now. Gives (readings c0) (readings c1) now) (λ draw. Gives (draws e0) (draws e1) draw) (λ P. LeavesOnly dg.moment dg.left_since d0.disk disk P) d0.history.items h doubt (taken_status end failed) (taken_text end reply)

  pub moved : (k k' : Replier) (b b' : List ℕ) (d0 d0' d1 : Desk F dg) (disk : F) (h : History) (doubt : Option Change) (c0 c0' c1 c1' : C) (e0 e0' e1 e1' : E) (end : Answered) (failed failed' : Option Device) (reply : List ℕ)
      → k ≡ k' → b ≡ b' → d0 ≡ d0' → d1.disk ≡ disk → d1.history.items ≡ h → d1.doubt ≡ doubt → c0 ≡ c0' → c1 ≡ c1' → e0 ≡ e0' → e1 ≡ e1' → failed ≡ failed'
      → Told k b d0 d1.disk d1.history.items d1.doubt c0 c1 e0 e1 end failed reply → Told k' b' d0' disk h doubt c0' c1' e0' e1' end failed' reply
  moved k k' b b' d0 d0' d1 disk h doubt c0 c0' c1 c1' e0 e0' e1 e1' end failed failed' reply pk pb pd0 pdisk ph pdoubt pc0 pc1 pe0 pe1 pf t =
      subst (λ (x : Replier). Told x b' d0' disk h doubt c0' c1' e0' e1' end failed' reply) pk
      (subst (λ (x : List ℕ). Told k x d0' disk h doubt c0' c1' e0' e1' end failed' reply) pb
      (subst (λ (x : Desk F dg). Told k b x disk h doubt c0' c1' e0' e1' end failed' reply) pd0
      (subst (λ (x : F). Told k b d0 x h doubt c0' c1' e0' e1' end failed' reply) pdisk
      (subst (λ (x : History). Told k b d0 d1.disk x doubt c0' c1' e0' e1' end failed' reply) ph
      (subst (λ (x : Option Change). Told k b d0 d1.disk d1.history.items x c0' c1' e0' e1' end failed' reply) pdoubt
      (subst (λ (x : C). Told k b d0 d1.disk d1.history.items d1.doubt x c1' e0' e1' end failed' reply) pc0
      (subst (λ (x : C). Told k b d0 d1.disk d1.history.items d1.doubt c0 x e0' e1' end failed' reply) pc1
      (subst (λ (x : E). Told k b d0 d1.disk d1.history.items d1.doubt c0 c1 x e1' end failed' reply) pe0
      (subst (λ (x : E). Told k b d0 d1.disk d1.history.items d1.doubt c0 c1 e0 x end failed' reply) pe1
      (subst (λ (x : Option Device). Told k b d0 d1.disk d1.history.items d1.doubt c0 c1 e0 e1 end x reply) pf t))))))))))

  pub rose_disk : (d0 d0' d1 : Desk F dg) (disk : F) → d0 ≡ d0' → d1.disk ≡ disk → Rose (dg.faults d0.disk) (dg.faults d1.disk) → Rose (dg.faults d0'.disk) (dg.faults disk)
  rose_disk d0 d0' d1 disk p0 p1 r =
      subst (λ (x : Desk F dg). Rose (dg.faults x.disk) (dg.faults disk)) p0 (subst (λ (x : F). Rose (dg.faults d0.disk) (dg.faults x)) p1 r)

  pub same_loan : (d0 d0' d1 : Desk F dg) (disk : F) → d0 ≡ d0' → d1.disk ≡ disk → dg.loan d1.disk ≡ dg.loan d0.disk → dg.loan disk ≡ dg.loan d0'.disk
  same_loan d0 d0' d1 disk p0 p1 e =
      subst (λ (x : Desk F dg). dg.loan disk ≡ dg.loan x.disk) p0 (subst (λ (x : F). dg.loan x ≡ dg.loan d0.disk) p1 e)

pub rose_moved : {E : Type 0} (faults : E → ℕ) (e0 e0' e1 e1' : E) → e0 ≡ e0' → e1 ≡ e1' → Rose (faults e0) (faults e1) → Rose (faults e0') (faults e1')
rose_moved {E} faults e0 e0' e1 e1' p0 p1 r = subst (λ (x : E). Rose (faults x) (faults e1')) p0 (subst (λ (x : E). Rose (faults e0) (faults x)) p1 r)

pub held_loan : (x y : Held) → x ≡ y → x.loan ≡ y.loan
held_loan x y e = ap (λ (h : Held). h.loan) e

pub held_disk : (x y : Held) → x ≡ y → x.disk ≡ y.disk
held_disk x y e = ap (λ (h : Held). h.disk) e
