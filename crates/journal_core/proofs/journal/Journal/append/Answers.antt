use Rattle.std.proofs.Common.{ℕ, ◌<◌, ◌≤◌, ◌^◌, [], ◌∷◌, ◌++◌, length, refl, subst, arith, Err}
use Rattle.cmp_ports.specs.Moments.{weaker}
use Rattle.journal_core.specs.declared.seal.Unsealed.{Unsealed}
use Rattle.journal_core.specs.Log.{framed, log_of, IsBeforeOrAfter, IsWithout}
use Rattle.journal_core.specs.Seal.{IsSealed}
use Rattle.journal_core.proofs.States.{body_for, appended, before_gate, at_gate, below_limit, either_recovers, without}
use Rattle.journal_core.proofs.journal.Journal.append.Goals as goal

small_enough : (n : ℕ) → n ≤ 1073741824 → n < 2 ^ 32
small_enough n fits = omega (arith, fits)

pub returns-in-Ok-clause-outcome : goal.returns-in-Ok-clause-outcome
returns-in-Ok-clause-outcome g c = λ magic payloads rest.
    let octets = c.octets-octets.ensures in
    let body = body_for magic payloads [] c.args.entry.now c.octets-octets.result.now c.args.self.now.end c.args.self.now.count c.args.self.now.doubt (g.D.Disk.images c.args.disk.now) rest.0 rest.1 octets.spelled in
    appended magic payloads [] c.args.entry.now c.args.self.now.end c.args.self.now.count (length c.octets-octets.result.now) c.args.self.now.doubt (g.D.Disk.images c.args.disk.now) (g.D.Disk.images c.seal.new.disk) rest.0 rest.1 octets.fits octets.size (c.in-Ok.ensures.outcome (log_of magic payloads) (framed c.args.entry.now) body)

pub returns-in-Ok-clause-sound : goal.returns-in-Ok-clause-sound
returns-in-Ok-clause-sound g c =
    let s = c.requires.sound in
    let octets = c.octets-octets.ensures in
    let body = body_for s.0 s.1 s.2 c.args.entry.now c.octets-octets.result.now c.args.self.now.end c.args.self.now.count c.args.self.now.doubt (g.D.Disk.images c.args.disk.now) s.3 c.requires.clear octets.spelled in
    (s.0, s.1 ++ c.args.entry.now ∷ [], [], (appended s.0 s.1 s.2 c.args.entry.now c.args.self.now.end c.args.self.now.count (length c.octets-octets.result.now) c.args.self.now.doubt (g.D.Disk.images c.args.disk.now) (g.D.Disk.images c.seal.new.disk) s.3 c.requires.clear octets.fits octets.size (c.in-Ok.ensures.outcome (log_of s.0 s.1) (framed c.args.entry.now) body)).0)

pub returns-in-Ok-clause-moments : goal.returns-in-Ok-clause-moments
returns-in-Ok-clause-moments g c = λ magic payloads rest.
    let octets = c.octets-octets.ensures in
    let body = body_for magic payloads [] c.args.entry.now c.octets-octets.result.now c.args.self.now.end c.args.self.now.count c.args.self.now.doubt (g.D.Disk.images c.args.disk.now) rest.0 rest.1 octets.spelled in
    weaker g.D.Disk.moment g.D.Disk.left_since _ _ _ (IsBeforeOrAfter magic payloads c.args.entry.now) (c.seal.ensures.moments (log_of magic payloads) (framed c.args.entry.now) body)
    (λ i left. either_recovers magic payloads c.args.entry.now i rest.0.small (small_enough (length c.args.entry.now) octets.fits) left)

pub returns-in-Err-Before-clause-outcome : goal.returns-in-Err-Before-clause-outcome
returns-in-Err-Before-clause-outcome g c = λ magic payloads rest.
    let octets = c.octets-octets.ensures in
    let body = body_for magic payloads [] c.args.entry.now c.octets-octets.result.now c.args.self.now.end c.args.self.now.count c.args.self.now.doubt (g.D.Disk.images c.args.disk.now) rest.0 rest.1 octets.spelled in
    (before_gate magic payloads [] c.args.entry.now c.args.self.now.end c.args.self.now.count c.args.self.now.doubt (g.D.Disk.images c.args.disk.now) (g.D.Disk.images c.seal.new.disk) rest.0 octets.fits (subst (λ (e : Unsealed). IsSealed {T = Unit {0}} (log_of magic payloads) (framed c.args.entry.now) (Err e) (g.D.Disk.images c.seal.new.disk)) c.in-Err-Before.field-0-is (c.in-Err-Before.ensures.outcome (log_of magic payloads) (framed c.args.entry.now) body)), refl)

pub returns-in-Err-Before-clause-sound : goal.returns-in-Err-Before-clause-sound
returns-in-Err-Before-clause-sound g c =
    let s = c.requires.sound in
    let octets = c.octets-octets.ensures in
    let body = body_for s.0 s.1 s.2 c.args.entry.now c.octets-octets.result.now c.args.self.now.end c.args.self.now.count c.args.self.now.doubt (g.D.Disk.images c.args.disk.now) s.3 c.requires.clear octets.spelled in
    (s.0, s.1, c.args.entry.now, before_gate s.0 s.1 s.2 c.args.entry.now c.args.self.now.end c.args.self.now.count c.args.self.now.doubt (g.D.Disk.images c.args.disk.now) (g.D.Disk.images c.seal.new.disk) s.3 octets.fits (subst (λ (e : Unsealed). IsSealed {T = Unit {0}} (log_of s.0 s.1) (framed c.args.entry.now) (Err e) (g.D.Disk.images c.seal.new.disk)) c.in-Err-Before.field-0-is (c.in-Err-Before.ensures.outcome (log_of s.0 s.1) (framed c.args.entry.now) body)))

pub returns-in-Err-Before-clause-moments : goal.returns-in-Err-Before-clause-moments
returns-in-Err-Before-clause-moments g c = λ magic payloads rest.
    let octets = c.octets-octets.ensures in
    let body = body_for magic payloads [] c.args.entry.now c.octets-octets.result.now c.args.self.now.end c.args.self.now.count c.args.self.now.doubt (g.D.Disk.images c.args.disk.now) rest.0 rest.1 octets.spelled in
    weaker g.D.Disk.moment g.D.Disk.left_since _ _ _ (IsBeforeOrAfter magic payloads c.args.entry.now) (c.seal.ensures.moments (log_of magic payloads) (framed c.args.entry.now) body)
    (λ i left. either_recovers magic payloads c.args.entry.now i rest.0.small (small_enough (length c.args.entry.now) octets.fits) left)

pub returns-in-Err-Before-clause-unbegun : goal.returns-in-Err-Before-clause-unbegun
returns-in-Err-Before-clause-unbegun g c = λ magic payloads rest failed unbegun.
    let octets = c.octets-octets.ensures in
    let body = body_for magic payloads [] c.args.entry.now c.octets-octets.result.now c.args.self.now.end c.args.self.now.count c.args.self.now.doubt (g.D.Disk.images c.args.disk.now) rest.0 rest.1 octets.spelled in
    weaker g.D.Disk.moment g.D.Disk.left_since _ _ _ (IsWithout magic payloads c.args.entry.now) (c.in-Err-Before.ensures.before (log_of magic payloads) (framed c.args.entry.now) body (cc c.in-Err-Before.field-0-is))
    (λ i left. without magic payloads c.args.entry.now i rest.0.small left)

pub returns-in-Err-Gate-clause-outcome : goal.returns-in-Err-Gate-clause-outcome
returns-in-Err-Gate-clause-outcome g c = λ magic payloads rest.
    let octets = c.octets-octets.ensures in
    let body = body_for magic payloads [] c.args.entry.now c.octets-octets.result.now c.args.self.now.end c.args.self.now.count c.args.self.now.doubt (g.D.Disk.images c.args.disk.now) rest.0 rest.1 octets.spelled in
    (at_gate magic payloads [] c.args.entry.now c.args.self.now.end c.args.self.now.count (length c.octets-octets.result.now) c.args.self.now.doubt (g.D.Disk.images c.args.disk.now) (g.D.Disk.images c.seal.new.disk) rest.0 octets.fits (below_limit c.args.self.now.count c.args.self.now.end (length c.octets-octets.result.now) c.is_full.result c.is_full.ensures c.if-is_full.false) (subst (λ (e : Unsealed). IsSealed {T = Unit {0}} (log_of magic payloads) (framed c.args.entry.now) (Err e) (g.D.Disk.images c.seal.new.disk)) c.in-Err-Gate.field-0-is (c.in-Err-Gate.ensures.outcome (log_of magic payloads) (framed c.args.entry.now) body)), refl)

pub returns-in-Err-Gate-clause-sound : goal.returns-in-Err-Gate-clause-sound
returns-in-Err-Gate-clause-sound g c =
    let s = c.requires.sound in
    let octets = c.octets-octets.ensures in
    let body = body_for s.0 s.1 s.2 c.args.entry.now c.octets-octets.result.now c.args.self.now.end c.args.self.now.count c.args.self.now.doubt (g.D.Disk.images c.args.disk.now) s.3 c.requires.clear octets.spelled in
    (s.0, s.1, c.args.entry.now, at_gate s.0 s.1 s.2 c.args.entry.now c.args.self.now.end c.args.self.now.count (length c.octets-octets.result.now) c.args.self.now.doubt (g.D.Disk.images c.args.disk.now) (g.D.Disk.images c.seal.new.disk) s.3 octets.fits (below_limit c.args.self.now.count c.args.self.now.end (length c.octets-octets.result.now) c.is_full.result c.is_full.ensures c.if-is_full.false) (subst (λ (e : Unsealed). IsSealed {T = Unit {0}} (log_of s.0 s.1) (framed c.args.entry.now) (Err e) (g.D.Disk.images c.seal.new.disk)) c.in-Err-Gate.field-0-is (c.in-Err-Gate.ensures.outcome (log_of s.0 s.1) (framed c.args.entry.now) body)))

pub returns-in-Err-Gate-clause-moments : goal.returns-in-Err-Gate-clause-moments
returns-in-Err-Gate-clause-moments g c = λ magic payloads rest.
    let octets = c.octets-octets.ensures in
    let body = body_for magic payloads [] c.args.entry.now c.octets-octets.result.now c.args.self.now.end c.args.self.now.count c.args.self.now.doubt (g.D.Disk.images c.args.disk.now) rest.0 rest.1 octets.spelled in
    weaker g.D.Disk.moment g.D.Disk.left_since _ _ _ (IsBeforeOrAfter magic payloads c.args.entry.now) (c.seal.ensures.moments (log_of magic payloads) (framed c.args.entry.now) body)
    (λ i left. either_recovers magic payloads c.args.entry.now i rest.0.small (small_enough (length c.args.entry.now) octets.fits) left)
