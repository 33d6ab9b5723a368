use Rattle.std.proofs.Common.{◌≡◌, ◌++◌, ◌∷◌, [], Err, inl, refl, sym, ap, subst}
use Rattle.cmp_ports.specs.Disk.{LeavesOnly}
use Rattle.cmp_ports.specs.Moments.{started, weaker}
use Rattle.journal_core.specs.declared.fault.AppendFault.{AppendFault}
use Rattle.journal_core.specs.Journal.{IsAppended}
use Rattle.desk.specs.History.{history_of}
use Rattle.desk.specs.Images.{magic, spellings, RecoversWith, MayCome}
use Rattle.desk.proofs.Kept.{keeps_out, keeps_images}
use Rattle.desk.proofs.AddLemmas.{rests, still, clear_left, no_doubt, added_keeps, added_lawful, doubtful_lawful, has_room, has_no_room, own_left, doubt_keeps, pushed}
use Rattle.desk.proofs.desk.Desk.append.Goals as goal

pub append-requires-clause-sound : goal.append-requires-clause-sound
append-requires-clause-sound g c =
    let s = c.args.self.now in
    let rest = rests (history_of s) s.doubt s.journal (g.D.Disk.images s.disk) c.requires.clear (keeps_out (history_of s) s.doubt s.journal (g.D.Disk.images s.disk) s.kept) in
    (magic, spellings (history_of s), [], rest.0)

pub append-requires-clause-clear : goal.append-requires-clause-clear
append-requires-clause-clear g c =
    let s = c.args.self.now in
    (rests (history_of s) s.doubt s.journal (g.D.Disk.images s.disk) c.requires.clear (keeps_out (history_of s) s.doubt s.journal (g.D.Disk.images s.disk) s.kept)).1

pub invariant_of-self : goal.invariant_of-self
invariant_of-self g c =
    let s = c.args.self.now in
    let rest = rests (history_of s) s.doubt s.journal (g.D.Disk.images s.disk) c.requires.clear (keeps_out (history_of s) s.doubt s.journal (g.D.Disk.images s.disk) s.kept) in
    let room = has_room (history_of s) c.args.c c.args.entry.now c.requires.spelled c.requires.fits (λ past. cc ((c.in-Ok.ensures.full magic (spellings (history_of s)) rest).1 past)) in
    let grown : c.push.new.self.items ≡ history_of s ++ c.args.c ∷ [] = pushed c.push.result c.push.new.self.items (history_of s) c.args.c _ _ c.push.ensures.items c.push.ensures.full c.requires.room in
    record {
      kept = ∣ added_keeps (history_of s) c.push.new.self.items c.args.c s.doubt c.args.entry.now c.append.new.self (g.D.Disk.images c.append.new.disk) c.requires.clear c.requires.spelled grown (c.in-Ok.ensures.outcome magic (spellings (history_of s)) rest) ∣₁;
      lawful = added_lawful (history_of s) c.push.new.self.items c.args.c s.doubt c.requires.clear grown room s.lawful;
    }

pub returns-in-Ok-push-clause-ends : goal.returns-in-Ok-push-clause-ends
returns-in-Ok-push-clause-ends g c =
    let s = c.args.self.now in
    let rest = rests (history_of s) s.doubt s.journal (g.D.Disk.images s.disk) c.requires.clear (keeps_out (history_of s) s.doubt s.journal (g.D.Disk.images s.disk) s.kept) in
    (has_room (history_of s) c.args.c c.args.entry.now c.requires.spelled c.requires.fits (λ past. cc ((c.in-Ok.ensures.full magic (spellings (history_of s)) rest).1 past)), c.in-Ok-push.ensures.items, c.requires.clear)

pub returns-in-Ok-push-clause-moments : goal.returns-in-Ok-push-clause-moments
returns-in-Ok-push-clause-moments g c =
    let s = c.args.self.now in
    let rest = rests (history_of s) s.doubt s.journal (g.D.Disk.images s.disk) c.requires.clear (keeps_out (history_of s) s.doubt s.journal (g.D.Disk.images s.disk) s.kept) in
    let room = has_room (history_of s) c.args.c c.args.entry.now c.requires.spelled c.requires.fits (λ past. cc ((c.in-Ok.ensures.full magic (spellings (history_of s)) rest).1 past)) in
    weaker g.D.Disk.moment g.D.Disk.left_since _ _ _ (RecoversWith (history_of s) (MayCome (λ x. x ≡ c.args.c) (history_of s))) (c.append.ensures.moments magic (spellings (history_of s)) rest) (λ image left. own_left (history_of s) c.args.c c.args.entry.now image c.requires.spelled room left)

pub returns-in-Err-Full-clause-moments : goal.returns-in-Err-Full-clause-moments
returns-in-Err-Full-clause-moments g c =
    let s = c.args.self.now in
    let images = keeps_images (history_of s) s.doubt s.journal (g.D.Disk.images s.disk) (keeps_out (history_of s) s.doubt s.journal (g.D.Disk.images s.disk) s.kept) in
    let P = RecoversWith (history_of s) (MayCome (λ x. x ≡ c.args.c) (history_of s)) in
    let untouched = c.in-Err-Full.ensures.untouched (ap Err c.in-Err-Full.field-0-is) in
    let here = started g.D.Disk.moment g.D.Disk.left_since s.disk P (λ image left. clear_left (history_of s) s.doubt _ image c.requires.clear (images image (g.met.D.Disk.only_now s.disk image left))) in
    subst (λ d. LeavesOnly g.D.Disk.moment g.D.Disk.left_since s.disk d P) (sym untouched) here

pub returns-in-Err-DiskFault-clause-doubt : goal.returns-in-Err-DiskFault-clause-doubt
returns-in-Err-DiskFault-clause-doubt g c =
    let s = c.args.self.now in
    let rest = rests (history_of s) s.doubt s.journal (g.D.Disk.images s.disk) c.requires.clear (keeps_out (history_of s) s.doubt s.journal (g.D.Disk.images s.disk) s.kept) in
    (refl, has_room (history_of s) c.args.c c.args.entry.now c.requires.spelled c.requires.fits (λ past. cc ((c.in-Err-DiskFault.ensures.full magic (spellings (history_of s)) rest).1 past, c.in-Err-DiskFault.field-0-is)))

pub returns-in-Err-Full-clause-doubt : goal.returns-in-Err-Full-clause-doubt
returns-in-Err-Full-clause-doubt g c = no_doubt c.args.self.now.doubt _ c.requires.clear

pub returns-in-Ok-push-clause-doubt : goal.returns-in-Ok-push-clause-doubt
returns-in-Ok-push-clause-doubt g c = no_doubt c.args.self.now.doubt _ c.requires.clear

pub returns-in-Err-Full-clause-exact : goal.returns-in-Err-Full-clause-exact
returns-in-Err-Full-clause-exact g c = λ _. ap g.D.Disk.faults (c.in-Err-Full.ensures.untouched (ap Err c.in-Err-Full.field-0-is))

pub returns-in-Err-DiskFault-clause-moments : goal.returns-in-Err-DiskFault-clause-moments
returns-in-Err-DiskFault-clause-moments g c =
    let s = c.args.self.now in
    let rest = rests (history_of s) s.doubt s.journal (g.D.Disk.images s.disk) c.requires.clear (keeps_out (history_of s) s.doubt s.journal (g.D.Disk.images s.disk) s.kept) in
    let room = has_room (history_of s) c.args.c c.args.entry.now c.requires.spelled c.requires.fits (λ past. cc ((c.in-Err-DiskFault.ensures.full magic (spellings (history_of s)) rest).1 past, c.in-Err-DiskFault.field-0-is)) in
    weaker g.D.Disk.moment g.D.Disk.left_since _ _ _ (RecoversWith (history_of s) (MayCome (λ x. x ≡ c.args.c) (history_of s))) (c.append.ensures.moments magic (spellings (history_of s)) rest) (λ image left. own_left (history_of s) c.args.c c.args.entry.now image c.requires.spelled room left)

pub invariant_of-self-in-Err-Full : goal.invariant_of-self-in-Err-Full
invariant_of-self-in-Err-Full g c =
    let s = c.args.self.now in
    let rest = rests (history_of s) s.doubt s.journal (g.D.Disk.images s.disk) c.requires.clear (keeps_out (history_of s) s.doubt s.journal (g.D.Disk.images s.disk) s.kept) in
    let full = subst (λ (e : AppendFault). IsAppended {T = Unit {0}} magic (spellings (history_of s)) c.args.entry.now (Err e) s.journal c.append.new.self (g.D.Disk.images c.append.new.disk)) c.in-Err-Full.field-0-is (c.in-Err-Full.ensures.outcome magic (spellings (history_of s)) rest) in
    record { kept = ∣ still (history_of s) s.doubt c.append.new.self (g.D.Disk.images c.append.new.disk) c.requires.clear full.1 ∣₁; lawful = s.lawful }

pub invariant_of-self-in-Err-DiskFault : goal.invariant_of-self-in-Err-DiskFault
invariant_of-self-in-Err-DiskFault g c =
    let s = c.args.self.now in
    let rest = rests (history_of s) s.doubt s.journal (g.D.Disk.images s.disk) c.requires.clear (keeps_out (history_of s) s.doubt s.journal (g.D.Disk.images s.disk) s.kept) in
    let failed = subst (λ (e : AppendFault). IsAppended {T = Unit {0}} magic (spellings (history_of s)) c.args.entry.now (Err e) s.journal c.append.new.self (g.D.Disk.images c.append.new.disk)) c.in-Err-DiskFault.field-0-is (c.in-Err-DiskFault.ensures.outcome magic (spellings (history_of s)) rest) in
    let room = has_room (history_of s) c.args.c c.args.entry.now c.requires.spelled c.requires.fits (λ past. cc ((c.in-Err-DiskFault.ensures.full magic (spellings (history_of s)) rest).1 past, c.in-Err-DiskFault.field-0-is)) in
    record { kept = ∣ doubt_keeps (history_of s) c.args.c c.args.entry.now c.append.new.self (g.D.Disk.images c.append.new.disk) c.requires.spelled failed ∣₁; lawful = doubtful_lawful (history_of s) c.args.c room s.lawful }

pub returns-in-Err-Full-clause-ends : goal.returns-in-Err-Full-clause-ends
returns-in-Err-Full-clause-ends g c =
    let s = c.args.self.now in
    let rest = rests (history_of s) s.doubt s.journal (g.D.Disk.images s.disk) c.requires.clear (keeps_out (history_of s) s.doubt s.journal (g.D.Disk.images s.disk) s.kept) in
    (has_no_room (history_of s) c.args.c c.args.entry.now c.requires.spelled ((c.in-Err-Full.ensures.full magic (spellings (history_of s)) rest).0 (ap Err c.in-Err-Full.field-0-is)), refl, inl c.requires.clear)
