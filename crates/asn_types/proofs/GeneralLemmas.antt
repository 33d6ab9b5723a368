-- The test of a general name, and what it tells.
use Rattle.std.proofs.Common.{◌≡◌, ℕ, ◌≤◌, ◌⊎◌, inl, inr, Bool, true, false, not, ◌&&◌, ◌||◌, eqb, leb, List, Result, Ok, Err, IsTrue, ◌↔◌, eqb-true, eq-eqb, refl, sym, ap, subst, arith}
use Rattle.std.proofs.lemmas.Bool.Decides.{nat_tests}
use Rattle.der_base.specs.Reading.{Part, part, whole_at}
use Rattle.der_base.specs.declared.fault.DerFault.{DerFault}
use Rattle.asn_fields.specs.Fields.{ok_of}
use Rattle.asn_types.specs.Name.{IsName}
use Rattle.asn_types.specs.General.{IsNameAlone, IsGeneral, is_name_read, is_general_tag, is_general}
use Rattle.asn_types.proofs.RowLemmas.{both, and_both}
use Rattle.asn_types.proofs.NameLemmas.{name_test, false_true}
use Rattle.asn_types.proofs.ValueLemmas.{whole_takes, whole_again, ok_is}

either : (a b : Bool) → IsTrue (a || b) → IsTrue a ⊎ IsTrue b
either true b h = inl refl
either false b h = inr h

pub left_or : (a b : Bool) → IsTrue a → IsTrue (a || b)
left_or true b h = refl
left_or false b h = absurd (false_true h)

pub right_or : (a b : Bool) → IsTrue b → IsTrue (a || b)
right_or true b h = refl
right_or false b h = h

le_of : (a b : ℕ) → IsTrue (leb a b) → a ≤ b
le_of a b h = grind (arith, nat_tests)

of_le : (a b : ℕ) → a ≤ b → IsTrue (leb a b)
of_le a b h = grind (arith, nat_tests)

within : (low high tag : ℕ) → IsTrue (leb low tag && leb tag high) → (low ≤ tag) × (tag ≤ high)
within low high tag h = let p = both (leb low tag) (leb tag high) h in (le_of _ _ p.0, le_of _ _ p.1)

is_within : (low high tag : ℕ) → low ≤ tag → tag ≤ high → IsTrue (leb low tag && leb tag high)
is_within low high tag h k = and_both (leb low tag) (leb tag high) (of_le _ _ h) (of_le _ _ k)

tagged_of : (tag : ℕ) → IsTrue (is_general_tag tag) → ((0x80 ≤ tag) × (tag ≤ 0x88)) ⊎ ((0xA0 ≤ tag) × (tag ≤ 0xA8))
tagged_of tag h =
    elim (either (leb 0x80 tag && leb tag 0x88) (leb 0xA0 tag && leb tag 0xA8) h) [
      | inl a ↦ inl (within 0x80 0x88 tag a)
      | inr b ↦ inr (within 0xA0 0xA8 tag b)
    ]

of_tagged : (tag : ℕ) → ((0x80 ≤ tag) × (tag ≤ 0x88)) ⊎ ((0xA0 ≤ tag) × (tag ≤ 0xA8)) → IsTrue (is_general_tag tag)
of_tagged tag (inl a) = left_or (leb 0x80 tag && leb tag 0x88) (leb 0xA0 tag && leb tag 0xA8) (is_within 0x80 0x88 tag a.0 a.1)
of_tagged tag (inr b) = right_or (leb 0x80 tag && leb tag 0x88) (leb 0xA0 tag && leb tag 0xA8) (is_within 0xA0 0xA8 tag b.0 b.1)

alone_by : (octets : List ℕ) (r : Result Part DerFault) → whole_at octets ≡ r → IsTrue (is_name_read r) → IsNameAlone octets
alone_by octets (Ok p) e h = record { name = p; alone = (whole_takes octets p (ap ok_of e)).0; is_name = (name_test p).0 h }
alone_by octets (Err f) e h = absurd (false_true h)

by_alone : (octets : List ℕ) → IsNameAlone octets → IsTrue (is_name_read (whole_at octets))
by_alone octets a =
    let is : IsName (part a.name.tag a.name.content) = record { is_sequence = a.is_name.is_sequence; names = a.is_name.names } in
    subst (λ (r : Result Part DerFault). IsTrue (is_name_read r)) (sym (ok_is (whole_at octets) _ (whole_again octets a.name.tag a.name.content a.alone))) ((name_test (part a.name.tag a.name.content)).1 is)

directory_of : (b c : Bool) → IsTrue (not b || c) → b ≡ true → IsTrue c
directory_of true c h e = h
directory_of false c h e = absurd (false_true e)

of_directory : (b c : Bool) → (b ≡ true → IsTrue c) → IsTrue (not b || c)
of_directory true c h = h refl
of_directory false c h = refl

pub general_test : (p : Part) → IsTrue (is_general p) ↔ IsGeneral p
unfolding is_general
general_test p = (
  λ h.
      let parts = both (is_general_tag p.tag) (not (eqb p.tag 0xA4) || is_name_read (whole_at p.content)) h in
      record {
        tagged = tagged_of p.tag parts.0;
        directory = λ e. alone_by p.content (whole_at p.content) refl (directory_of (eqb p.tag 0xA4) _ parts.1 (eq-eqb _ _ e));
      },
  λ g. and_both (is_general_tag p.tag) (not (eqb p.tag 0xA4) || is_name_read (whole_at p.content)) (of_tagged p.tag g.tagged) (of_directory (eqb p.tag 0xA4) _ (λ e. by_alone p.content (g.directory (eqb-true _ _ e)))),
)
