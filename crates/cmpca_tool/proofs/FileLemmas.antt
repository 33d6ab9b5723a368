-- What the file of credentials tells, where the source tells its octets and where it does not.
use Rattle.std.specs.Prelude.{◌≡◌, ℕ, ◌+◌, ◌<◌, List, [], ◌∷◌, Option, Some, None, IfSome, Result, Err, ok_or, length, take, refl}
use Rattle.std.proofs.Common.{inl, inr, arith, sym, ◌∙◌, ap, length-take-le}
use Rattle.std.specs.List.{AllByRecursion}
use Rattle.std.proofs.lemmas.List.{take_all}
use Rattle.std.proofs.lemmas.Bool.{cases_lt}
use Rattle.deal_changes.specs.declared.change.Credential.{Credential}
use Rattle.deal_model.specs.Rules.{AreNew}
use Rattle.registry.specs.declared.fault.RegFault.{RegFault}
use Rattle.registry.specs.declared.fault.RegFault.TheVariants as files
use Rattle.registry.specs.Credentials.{credentials_in, credentials_of}
use Rattle.registry.specs.Credentials as registry
use Rattle.registry.specs.Files.{◌>>=◌}
use Rattle.registry.proofs.FileLemmas.{table_long}
use Rattle.desk.specs.Listings as desk
use Rattle.cmpca_tool.specs.Deeds.{IsFile}

-- ---- what the reader promises of a list is what the desk asks for

fit_list : (list : List Credential) → AllByRecursion (λ c. c.rights < 32) list → AreNew [] list → desk.AreFit list
fit_list [] rights new = tt
fit_list (c ∷ cs) rights new = (new.0, rights.0, new.2, fit_list cs rights.1 new.3)

pub fit_desk : (list : List Credential) → registry.AreListable list → desk.AreFit list
fit_desk list l = fit_list list l.fit.rights l.fit.new

-- ---- one octet past the limit tells as much as all octets

-- no table, no credentials
long_told : (file : List ℕ) → 65536 < length file → credentials_in file ≡ Err files.BadToml
long_told file long = ap (λ t. ok_or t files.BadToml >>= credentials_of) (table_long file long)

front_told : (all : List ℕ) → credentials_in (take (65536 + 1) all) ≡ credentials_in all
front_told all = elim (cases_lt 65536 (length all)) [
  | inl long ↦ long_told (take (65536 + 1) all) (omega (arith, length-take-le (65536 + 1) all (omega arith))) ∙ sym (long_told all long)
  | inr short ↦ ap credentials_in (take_all (65536 + 1) all (omega arith))
]

-- the file that the source had left, by what was read of it
pub told_file : (left : Option (List ℕ)) (octets : List ℕ) (told : Result (List Credential) RegFault) → IfSome left (λ all. octets ≡ take (65536 + 1) all) → credentials_in octets ≡ told → IsFile left told
told_file None octets told read tells = record { file = octets; whole = tt; tells = tells }
told_file (Some all) octets told read tells = record { file = all; whole = refl; tells = sym (front_told all) ∙ ap credentials_in (sym read) ∙ tells }
