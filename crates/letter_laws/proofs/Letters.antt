-- Octets that are read have a letter, and any two agree.
use Rattle.std.proofs.Common.{◌≡◌, ◌↔◌, ℕ, Bool, true, false, IsTrue, List, Option, Some, None, refl, sym, ap, subst, ◌∙◌}
use Rattle.pbmac_grammar.specs.Pbmac1.{ParamsAreSpelled}
use Rattle.pki_message.specs.Message.{MessageForm}
use Rattle.deal_table.specs.History.{Receipted}
use Rattle.deal_table.specs.Message.{Facts, Letter}
use Rattle.intake.specs.Bodies.{body_facts}
use Rattle.intake.specs.Headers.{asks_implicit}
use Rattle.intake.specs.Holds.{Verifies, IsProven}
use Rattle.intake.specs.Letter.{IsReading, Checks, AreChecks, facts_of, inside_of, IsLetter}
use Rattle.letter_laws.specs.Laws.{AgreeFacts, AgreeLetters, HasLetter}
use Rattle.letter_laws.proofs.Checked.{checks}

-- ---- one letter

same_bool : (P : Type 0) (a b : Bool) → IsTrue a ↔ P → IsTrue b ↔ P → a ≡ b
same_bool P true true f g = refl
same_bool P true false f g = absurd (let e = g.1 (f.0 refl) in cc)
same_bool P false true f g = absurd (let e = f.1 (g.0 refl) in cc)
same_bool P false false f g = refl

facts_agree : (hashes : Receipted → List ℕ) (bytes : List ℕ) (o : Option MessageForm) (c d : Checks) → AreChecks o c → AreChecks o d → AgreeFacts (facts_of hashes bytes o c) (facts_of hashes bytes o d)
facts_agree hashes bytes None c d x y = record { is_message = refl; digest = refl; header = refl; is_protected = refl; verifies = λ key. refl; body = refl }
facts_agree hashes bytes (Some m) c d x y = record {
  is_message = refl;
  digest = refl;
  header = refl;
  is_protected = refl;
  verifies = λ key. same_bool (Verifies m key) (c.verifies key) (d.verifies key) (x.verified key) (y.verified key);
  body = ap (λ (p : Bool). body_facts hashes (asks_implicit m.head.info) p m.body) (same_bool (IsProven m.body) c.is_proven d.is_proven x.proven y.proven);
}

agree_where : (a b c d : Facts) → a ≡ c → b ≡ d → AgreeFacts c d → AgreeFacts a b
agree_where a b c d e f h = subst (λ (x : Facts). AgreeFacts x b) (sym e) (subst (λ (y : Facts). AgreeFacts c y) (sym f) h)

-- where both readings are the same
letters_agree : (hashes : Receipted → List ℕ) (bytes : List ℕ) (a b : Letter) (x : IsLetter hashes bytes a) (y : IsLetter hashes bytes b) → y.outer ≡ x.outer → y.inner ≡ x.inner → AgreeLetters a b
letters_agree hashes bytes a b x y outer inner = record {
  message = agree_where a.message b.message _ _ x.message (y.message ∙ ap (λ (o : Option MessageForm). facts_of hashes bytes o y.outer_checks) outer)
      (facts_agree hashes bytes x.outer x.outer_checks y.outer_checks x.outer_checked (subst (λ (o : Option MessageForm). AreChecks o y.outer_checks) outer y.outer_checked));
  inner = agree_where a.inner b.inner _ _ x.inside
      (y.inside ∙ ap (λ (o : Option MessageForm). facts_of hashes (inside_of o) y.inner y.inner_checks) outer ∙ ap (λ (o : Option MessageForm). facts_of hashes (inside_of x.outer) o y.inner_checks) inner)
      (facts_agree hashes (inside_of x.outer) x.inner x.inner_checks y.inner_checks x.inner_checked (subst (λ (o : Option MessageForm). AreChecks o y.inner_checks) inner y.inner_checked));
}

-- octets are read as this, and as nothing else
abbrev pub ReadsAs : List ℕ → Option MessageForm → Type 0
ReadsAs bytes o = IsReading bytes o × ((p : Option MessageForm) → IsReading bytes p → p ≡ o)

pub one_letter : (bytes : List ℕ) (outer inner : Option MessageForm) → ReadsAs bytes outer → ReadsAs (inside_of outer) inner → (hashes : Receipted → List ℕ) (a b : Letter) → IsLetter hashes bytes a → IsLetter hashes bytes b → AgreeLetters a b
one_letter bytes outer inner r s hashes a b x y = letters_agree hashes bytes a b x y (r.1 y.outer y.is_outer ∙ sym (r.1 x.outer x.is_outer)) (inside y ∙ sym (inside x))
  where
    inside : {l : Letter} (z : IsLetter hashes bytes l) → z.inner ≡ inner
    inside z = s.1 z.inner (subst (λ (o : Option MessageForm). IsReading (inside_of o) z.inner) (r.1 z.outer z.is_outer) z.is_inner)

-- ---- a letter

pub some_letter : ParamsAreSpelled → (bytes : List ℕ) (outer inner : Option MessageForm) → ReadsAs bytes outer → ReadsAs (inside_of outer) inner → HasLetter bytes
some_letter spelled bytes outer inner r s hashes =
    let c = checks spelled outer in
    let d = checks spelled inner in (
      record { message = facts_of hashes bytes outer c.0; inner = facts_of hashes (inside_of outer) inner d.0 },
      record { outer = outer; inner = inner; outer_checks = c.0; inner_checks = d.0; is_outer = r.0; is_inner = s.0; outer_checked = c.1; inner_checked = d.1; message = refl; inside = refl },
    )
