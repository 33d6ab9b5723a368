-- A key file and its parts.
use Rattle.std.specs.Prelude.{ℕ, ◌≡◌, ◌≤◌, List, [], ◌++◌, length, take, drop, Option, None, Some, IfSome, Result, Ok, Err, refl}
use Rattle.std.specs.Io.KnownBytes.{Consumes}
use Rattle.std.proofs.Common.{sym, ◌∙◌, ap, subst, arith, length-drop, length-take-le, inl, inr}
use Rattle.std.proofs.lemmas.List.{take-append-drop, append_cancel_left, drop-drop, take_all}
use Rattle.std.proofs.lemmas.Bool.{cases_lt}
use Rattle.reply_maker.specs.KeyFile.{IsKeyFile, IsReadSoFar, key_file, issue_seed, issue_id, reply_seed, reply_id}
use Rattle.reply_maker.specs.declared.key_file.KeyFile.{KeyFile}
use Rattle.reply_maker.specs.declared.key_file.KeyFault.{KeyFault}
use Rattle.reply_maker.specs.declared.key_file.KeyFault.TheVariants.{ReadFault, BadKeyFile, KeyMismatch, NoMemory}
use Rattle.reply_maker.specs.Keys.{IsReadBy, LeavesRest}
use Rattle.reply_maker.specs.Parts.{HasParts, joined, GivesParts, IsRead}

-- the parts of 96 octets are the octets
pub joined_parts : (o : List ℕ) → length o ≡ 96 → key_file (issue_seed o) (issue_id o) (reply_seed o) (reply_id o) ≡ o
joined_parts o size =
    let last : length (drop 80 o) ≤ 16 = omega (arith, length-drop 80 o) in
    let d : take 16 (drop 80 o) ≡ drop 80 o = take_all 16 (drop 80 o) last in
    let c : take 32 (drop 48 o) ++ drop 80 o ≡ drop 48 o =
    ap (λ (l : List ℕ). take 32 (drop 48 o) ++ l) (sym (drop-drop 32 48 o)) ∙ take-append-drop 32 (drop 48 o) in
    let b : take 16 (drop 32 o) ++ drop 48 o ≡ drop 32 o =
    ap (λ (l : List ℕ). take 16 (drop 32 o) ++ l) (sym (drop-drop 16 32 o)) ∙ take-append-drop 16 (drop 32 o) in
    ap (λ (l : List ℕ). take 32 o ++ (take 16 (drop 32 o) ++ (take 32 (drop 48 o) ++ l))) d
    ∙ ap (λ (l : List ℕ). take 32 o ++ (take 16 (drop 32 o) ++ l)) c
    ∙ ap (λ (l : List ℕ). take 32 o ++ l) b
    ∙ take-append-drop 32 o

-- a file with parts is the file of its parts
pub joined_is : (file : List ℕ) (k : KeyFile) → HasParts file k → joined k ≡ file
joined_is file k h =
    ap (λ (l : List ℕ). l ++ (k.issue.id ++ (k.reply.seed ++ k.reply.id))) h.issue_seed
    ∙ ap (λ (l : List ℕ). issue_seed file ++ (l ++ (k.reply.seed ++ k.reply.id))) h.issue_id
    ∙ ap (λ (l : List ℕ). issue_seed file ++ (issue_id file ++ (l ++ k.reply.id))) h.reply_seed
    ∙ ap (λ (l : List ℕ). issue_seed file ++ (issue_id file ++ (reply_seed file ++ l))) h.reply_id
    ∙ joined_parts file h.form.size

-- one octet past the size tells as much as all octets
long_bad : (file : List ℕ) → 97 ≤ length file → IsKeyFile file → ⊥
long_bad file long form = omega (arith, form.size)

long_parts : (all octets : List ℕ) (r : Result KeyFile KeyFault) → 97 ≤ length all → 97 ≤ length octets → GivesParts octets r → GivesParts all r
long_parts all octets (Ok k) long read h = absurd (long_bad octets read h.form)
long_parts all octets (Err BadKeyFile) long read h = long_bad all long
long_parts all octets (Err ReadFault) long read h = tt
long_parts all octets (Err NoMemory) long read h = tt
long_parts all octets (Err (KeyMismatch told known)) long read h = h

front_parts : (all octets : List ℕ) (r : Result KeyFile KeyFault) → octets ≡ take 97 all → GivesParts octets r → GivesParts all r
front_parts all octets r read h = elim (cases_lt 96 (length all)) [
  | inl long ↦
      let size : 97 ≤ length octets = omega (arith, ap length read, length-take-le 97 all (omega arith)) in
      long_parts all octets r (omega arith) size h
  | inr short ↦ subst (λ (l : List ℕ). GivesParts l r) (read ∙ take_all 97 all (omega arith)) h
]

pub is_read : (left : Option (List ℕ)) (octets : List ℕ) (r : Result KeyFile KeyFault) → IfSome left (λ all. octets ≡ take 97 all) → GivesParts octets r → IsRead left r
is_read None octets r read h = record { file = octets; read = tt; gives = h }
is_read (Some all) octets r read h = record { file = all; read = refl; gives = front_parts all octets r read h }

-- .. where the source was not read
some_file : (left : Option (List ℕ)) → (file : List ℕ) × IfSome left (λ all. all ≡ file)
some_file None = ([], tt)
some_file (Some all) = (all, refl)

pub unread : (left : Option (List ℕ)) (r : Result KeyFile KeyFault) → ((file : List ℕ) → GivesParts file r) → IsRead left r
unread left r gives = let f = some_file left in record { file = f.0; read = f.1; gives = gives f.0 }

-- what is read has the parts of its own file
pub has_joined : (file : List ℕ) (k : KeyFile) → HasParts file k → HasParts (joined k) k
has_joined file k h = subst (λ (l : List ℕ). HasParts l k) (sym (joined_is file k h)) h

-- what is left behind the octets that were read
rest_of : (all octets rest : List ℕ) → octets ≡ take 97 all → all ≡ octets ++ rest → rest ≡ drop 97 all
rest_of all octets rest read e =
    append_cancel_left (take 97 all) rest (drop 97 all) (sym (e ∙ ap (λ (l : List ℕ). l ++ rest) read) ∙ sym (take-append-drop 97 all))

pub read_so_far : (left after : Option (List ℕ)) (octets : List ℕ) → IfSome left (λ all. octets ≡ take 97 all) → Consumes left after octets → IsReadSoFar left after
read_so_far None after octets read taken = tt
read_so_far (Some all) None octets read taken = absurd taken
read_so_far (Some all) (Some rest) octets read taken = rest_of all octets rest read taken

-- .. whatever the octets that were read give then
read_by : (left after : Option (List ℕ)) (f : KeyFault) → IsReadSoFar left after → IsReadBy left after f
read_by left after ReadFault so = tt
read_by left after BadKeyFile so = so
read_by left after (KeyMismatch told known) so = so
read_by left after NoMemory so = tt

pub leaves_rest : {A : Type 0} (left after : Option (List ℕ)) (r : Result A KeyFault) → IsReadSoFar left after → LeavesRest left after r
leaves_rest left after (Ok x) so = so
leaves_rest left after (Err f) so = read_by left after f so
