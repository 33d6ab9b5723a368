-- What is valid is in form.
use Rattle.std.proofs.Common.{◌≡◌, ℕ, zero, suc, List, [], ◌+◌, ◌-◌, ◌*◌, ◌++◌, take, drop, refl, sym, ◌∙◌, ap, subst, arith, append_assoc}
use Rattle.std.specs.Prelude.{Option, None, Some, MatchOption, IsSome, option_map, option_and_then}
use Rattle.std.proofs.lemmas.List.{length-take-le, length-drop, take-append-drop, drop-drop}
use Rattle.lms_params.specs.Parameters.{OtsRow, ots_row, tree_height}
use Rattle.lms_tree.specs.Verifies.{u32_at, LmsOkIn, LmsOk}
use Rattle.hss_sig.specs.Hss.{signature_size, Leads, LevelsOk, HssOk}
use Rattle.hss_sig.specs.Forms.{IsLmsSignature, AreSignedKeys, AreInForm}

-- a valid signature of a tree has its form, and the key's typecodes are in the tables
lms_form_for : (o : Option ℕ) (r : Option OtsRow) (key text sig : List ℕ) → tree_height (u32_at key 0) ≡ o → ots_row (u32_at key 4) ≡ r
    → MatchOption o ⊥ (λ h. MatchOption r ⊥ (λ row. LmsOkIn h row key text sig)) → IsLmsSignature sig
lms_form_for None r key text sig known_h known_row never = absurd never
lms_form_for (Some h) None key text sig known_h known_row never = absurd never
lms_form_for (Some h) (Some row) key text sig known_h known_row ok = record {
  row = row;
  h = h;
  ots_code = ap ots_row ok.0.ots_code ∙ known_row;
  tree_code = ap tree_height ok.0.tree_code ∙ known_h;
  size = ok.0.size;
  leaf = ok.0.leaf;
}

lms_form : (key text sig : List ℕ) → LmsOk key text sig → IsLmsSignature sig
lms_form key text sig ok = lms_form_for (tree_height (u32_at key 0)) (ots_row (u32_at key 4)) key text sig refl refl ok

size_known : (o : Option ℕ) (r : Option OtsRow) (P : ℕ → OtsRow → Type 0) → MatchOption o ⊥ (λ h. MatchOption r ⊥ (λ row. P h row))
    → IsSome (option_and_then (λ h. option_map (λ row. 44 + 32 * row.p + 32 * h) r) o)
size_known None r P never = absurd never
size_known (Some h) None P never = absurd never
size_known (Some h) (Some row) P ok = refl

leads_known : (o : Option ℕ) (P : ℕ → Type 0) → MatchOption o ⊥ P → IsSome o
leads_known None P never = absurd never
leads_known (Some k) P ok = refl

-- a key that octets lead on from has typecodes of the tables
key_known : (n : ℕ) (text key octets : List ℕ) → LevelsOk n text key octets → IsSome (signature_size key)
key_known zero text key octets ok =
    size_known (tree_height (u32_at key 0)) (ots_row (u32_at key 4)) (λ h row. LmsOkIn h row key text octets) ok
key_known (suc n) text key octets ok = leads_known (signature_size key) (λ k. Leads k (LevelsOk n text) key octets) ok

-- octets of n upper levels and the last one
record IsParted (n : ℕ) (octets : List ℕ) : Type 0 where
  upper : List ℕ
  last : List ℕ
  parts : octets ≡ upper ++ last
  upper_is : AreSignedKeys n upper
  last_is : IsLmsSignature last

parted_once : (n k : ℕ) (text key octets : List ℕ) → Leads k (LevelsOk n text) key octets → IsParted n (drop (k + 56) octets) → IsParted (suc n) octets
parted_once n k text key octets leads below =
    let next = take 56 (drop k octets) in
    let room = leads.room in
    let whole : take k octets ++ (next ++ (below.upper ++ below.last)) ≡ octets =
    ap (λ (l : List ℕ). take k octets ++ (next ++ l)) (sym below.parts ∙ sym (drop-drop 56 k octets))
    ∙ ap (λ (l : List ℕ). take k octets ++ l) (take-append-drop 56 (drop k octets)) ∙ take-append-drop k octets in
    record {
      upper = take k octets ++ next ++ below.upper;
      last = below.last;
      parts = sym whole ∙ sym (append_assoc (take k octets) next (below.upper ++ below.last)) ∙ sym (append_assoc (take k octets ++ next) below.upper below.last);
      upper_is = record {
        signature = take k octets;
        key = next;
        behind = below.upper;
        spelled = refl;
        signed = lms_form key next (take k octets) leads.signed;
        named = record {
          size = length-take-le 56 (drop k octets) (omega (arith, length-drop k octets));
          known = key_known n text next (drop (k + 56) octets) leads.rest;
        };
        rest = below.upper_is;
      };
      last_is = below.last_is;
    }

parted_for : (n : ℕ) (o : Option ℕ) (text key octets : List ℕ)
    → ((k : ℕ) → Leads k (LevelsOk n text) key octets → IsParted n (drop (k + 56) octets))
    → MatchOption o ⊥ (λ k. Leads k (LevelsOk n text) key octets) → IsParted (suc n) octets
parted_for n None text key octets below never = absurd never
parted_for n (Some k) text key octets below leads = parted_once n k text key octets leads (below k leads)

parted : (n : ℕ) (text key octets : List ℕ) → LevelsOk n text key octets → IsParted n octets
parted zero text key octets ok =
    record { upper = []; last = octets; parts = refl; upper_is = refl; last_is = lms_form key text octets ok }
parted (suc n) text key octets ok =
    parted_for n (signature_size key) text key octets
    (λ k leads. parted n text (take 56 (drop k octets)) (drop (k + 56) octets) leads.rest) ok

-- what is valid is in form
pub valid_in_form : (key text sig : List ℕ) → HssOk key text sig → AreInForm key sig
valid_in_form key text sig ok =
    let parts = parted (u32_at sig 0) text (drop 4 key) (drop 4 sig) ok.levels in
    let less : u32_at sig 0 ≡ u32_at key 0 - 1 = omega (arith, ok.same_levels) in
    record {
      key_is = record {
        size = ok.key_size;
        levels_are = refl;
        some = ok.some;
        most = ok.most;
        first_is = refl;
        known = key_known (u32_at sig 0) text (drop 4 key) (drop 4 sig) ok.levels;
      };
      upper = parts.upper;
      last = parts.last;
      sig_is = record {
        some = ok.sig_size;
        levels_are = ok.same_levels;
        most = ok.most;
        parts = parts.parts;
        upper_is = subst (λ (n : ℕ). AreSignedKeys n parts.upper) less parts.upper_is;
        last_is = parts.last_is;
      };
    }
