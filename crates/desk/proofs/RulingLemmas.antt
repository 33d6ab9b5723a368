-- What a ruling says of what is left of a message.
use Rattle.std.proofs.Common.{◌≡◌, ℕ, Bool, true, Option, Some, None, ap}
use Rattle.std.specs.Prelude.{is_some, option_map}
use Rattle.cmp_values.specs.declared.fail_info.FailInfo.{FailInfo}
use Rattle.deal_changes.specs.declared.change.Change.{Change}
use Rattle.deal_table.specs.Table.{To, Decision, Makes, Repeats, Refuses, Asks}
use Rattle.deal_rulings.specs.declared.ruling.Ruling.TheVariants as rulings
use Rattle.deal_rulings.specs.Rulings.{ruling_of}

pub ruled_makes : (d : Decision) (c : Change) → rulings.Makes c ≡ ruling_of d → d ≡ Makes c
ruled_makes (Makes x) c e = let same : x ≡ c = cc in ap Makes same
ruled_makes (Repeats place) c e = absurd (cc e)
ruled_makes (Refuses fail to) c e = absurd (cc e)
ruled_makes (Asks place) c e = absurd (cc e)

pub ruled_repeats : (d : Decision) (place : ℕ) → rulings.Repeats place ≡ ruling_of d → d ≡ Repeats place
ruled_repeats (Makes c) place e = absurd (cc e)
ruled_repeats (Repeats n) place e = let same : n ≡ place = cc in ap Repeats same
ruled_repeats (Refuses fail to) place e = absurd (cc e)
ruled_repeats (Asks n) place e = absurd (cc e)

pub ruled_refuses : (d : Decision) (fail : FailInfo) (is_guarded to_outer : Bool) → rulings.Refuses fail is_guarded to_outer ≡ ruling_of d → (to : To) × (d ≡ Refuses fail to) × (to.outer ≡ to_outer) × (is_some to.guard ≡ is_guarded)
ruled_refuses (Makes c) fail is_guarded to_outer e = absurd (cc e)
ruled_refuses (Repeats place) fail is_guarded to_outer e = absurd (cc e)
ruled_refuses (Refuses because to) fail is_guarded to_outer e =
    let same : because ≡ fail = cc in
    let outer : to.outer ≡ to_outer = cc in
    let guard : is_some to.guard ≡ is_guarded = cc in
    (to, ap (λ (f : FailInfo). Refuses f to) same, outer, guard)
ruled_refuses (Asks place) fail is_guarded to_outer e = absurd (cc e)

pub ruled_asks : (d : Decision) (place : ℕ) → rulings.Asks place ≡ ruling_of d → d ≡ Asks place
ruled_asks (Makes c) place e = absurd (cc e)
ruled_asks (Repeats n) place e = absurd (cc e)
ruled_asks (Refuses fail to) place e = absurd (cc e)
ruled_asks (Asks n) place e = let same : n ≡ place = cc in ap Asks same

-- a view of what is there is there
pub mapped_there : {A B : Type 0} (f : A → B) (o : Option A) → is_some o ≡ true → None ≡ option_map f o → ⊥
mapped_there f (Some x) some e = cc e
mapped_there f None some e = cc some
