-- A change of a kind: what one reads of its parts is spelled so, and what is spelled so is read.
use Rattle.std.proofs.Common.{◌≡◌, ℕ, List, ◌∷◌, ◌++◌, Some, refl, ap, subst, ◌∙◌, append_assoc}
use Rattle.deal_changes.specs.declared.change.Change.{Change}
use Rattle.deal_changes.specs.Spelling.{spelling, IsChange}
use Rattle.deal_changes.specs.Reading.{Read, ◌>>=◌}
use Rattle.deal_changes.proofs.Forms.{IsBytes, bind_some, got, got_pair, Took, took_both, IsForm}

-- what is read behind the octet n is a change of this kind
abbrev pub Arm : ℕ → (List ℕ → Read Change) → Type 0
Arm n read = (bytes : List ℕ) (c : Change) (rest : List ℕ) → IsBytes bytes → read bytes ≡ got c rest → Took (n ∷ bytes) (spelling c) rest × IsChange c

moved : (n : ℕ) (bytes text : List ℕ) (made c : Change) (after rest : List ℕ) → got made after ≡ got c rest → spelling made ≡ n ∷ text → Took bytes text after → IsChange made → Took (n ∷ bytes) (spelling c) rest × IsChange c
moved n bytes text made c after rest e spells took fits =
    let p = got_pair made c after rest e in
    let first : Took (n ∷ bytes) (spelling made) after = rw spells (record { parts = ap (λ (o : List ℕ). n ∷ o) took.parts; rest_fits = took.rest_fits }) in
    subst (λ (q : List ℕ). Took (n ∷ bytes) (spelling c) q × IsChange c) p.1 (subst (λ (v : Change). Took (n ∷ bytes) (spelling v) after × IsChange v) p.0 (first, fits))

pub arm1 : {A : Type 0} (n : ℕ) (make : A → Change) (r : List ℕ → Read A) (s : A → List ℕ) (F : A → Type 0) → IsForm r s F
    → ((a : A) → spelling (make a) ≡ n ∷ s a) → ((a : A) → F a → IsChange (make a)) → Arm n (λ b. r b >>= λ a. Some (make a.0, a.1))
arm1 n make r s F one spells fits bytes c rest ok e =
    let a = bind_some (r bytes) (λ a. Some (make a.0, a.1)) (c, rest) e in
    let t = one.takes bytes a.0.0 a.0.1 ok a.1 in
    moved n bytes (s a.0.0) (make a.0.0) c a.0.1 rest a.2 (spells a.0.0) t.0 (fits a.0.0 t.1)

pub arm2 : {A B : Type 0} (n : ℕ) (make : A → B → Change) (r : List ℕ → Read A) (s : A → List ℕ) (F : A → Type 0) (q : List ℕ → Read B) (t : B → List ℕ) (G : B → Type 0)
    → IsForm r s F → IsForm q t G → ((a : A) (b : B) → spelling (make a b) ≡ n ∷ s a ++ t b) → ((a : A) (b : B) → F a → G b → IsChange (make a b))
    → Arm n (λ o. r o >>= λ a. q a.1 >>= λ b. Some (make a.0 b.0, b.1))
arm2 n make r s F q t G one two spells fits bytes c rest ok e =
    let a = bind_some (r bytes) (λ a. q a.1 >>= λ b. Some (make a.0 b.0, b.1)) (c, rest) e in
    let b = bind_some (q a.0.1) (λ b. Some (make a.0.0 b.0, b.1)) (c, rest) a.2 in
    let t0 = one.takes bytes a.0.0 a.0.1 ok a.1 in
    let t1 = two.takes a.0.1 b.0.0 b.0.1 t0.0.rest_fits b.1 in
    moved n bytes (s a.0.0 ++ t b.0.0) (make a.0.0 b.0.0) c b.0.1 rest b.2 (spells a.0.0 b.0.0) (took_both bytes (s a.0.0) a.0.1 (t b.0.0) b.0.1 t0.0 t1.0) (fits a.0.0 b.0.0 t0.1 t1.1)

pub arm3 : {A B C : Type 0} (n : ℕ) (make : A → B → C → Change) (r : List ℕ → Read A) (s : A → List ℕ) (F : A → Type 0) (q : List ℕ → Read B) (t : B → List ℕ) (G : B → Type 0) (p : List ℕ → Read C) (u : C → List ℕ) (H : C → Type 0)
    → IsForm r s F → IsForm q t G → IsForm p u H → ((a : A) (b : B) (c : C) → spelling (make a b c) ≡ n ∷ s a ++ (t b ++ u c)) → ((a : A) (b : B) (c : C) → F a → G b → H c → IsChange (make a b c))
    → Arm n (λ o. r o >>= λ a. q a.1 >>= λ b. p b.1 >>= λ c. Some (make a.0 b.0 c.0, c.1))
arm3 n make r s F q t G p u H one two three spells fits bytes d rest ok e =
    let a = bind_some (r bytes) (λ a. q a.1 >>= λ b. p b.1 >>= λ c. Some (make a.0 b.0 c.0, c.1)) (d, rest) e in
    let b = bind_some (q a.0.1) (λ b. p b.1 >>= λ c. Some (make a.0.0 b.0 c.0, c.1)) (d, rest) a.2 in
    let c = bind_some (p b.0.1) (λ c. Some (make a.0.0 b.0.0 c.0, c.1)) (d, rest) b.2 in
    let t0 = one.takes bytes a.0.0 a.0.1 ok a.1 in
    let t1 = two.takes a.0.1 b.0.0 b.0.1 t0.0.rest_fits b.1 in
    let t2 = three.takes b.0.1 c.0.0 c.0.1 t1.0.rest_fits c.1 in
    let both = took_both a.0.1 (t b.0.0) b.0.1 (u c.0.0) c.0.1 t1.0 t2.0 in
    moved n bytes (s a.0.0 ++ (t b.0.0 ++ u c.0.0)) (make a.0.0 b.0.0 c.0.0) d c.0.1 rest c.2 (spells a.0.0 b.0.0 c.0.0) (took_both bytes (s a.0.0) a.0.1 (t b.0.0 ++ u c.0.0) c.0.1 t0.0 both) (fits a.0.0 b.0.0 c.0.0 t0.1 t1.1 t2.1)

pub arm4 : {A B C D : Type 0} (n : ℕ) (make : A → B → C → D → Change) (r : List ℕ → Read A) (s : A → List ℕ) (F : A → Type 0) (q : List ℕ → Read B) (t : B → List ℕ) (G : B → Type 0) (p : List ℕ → Read C) (u : C → List ℕ) (H : C → Type 0) (z : List ℕ → Read D) (v : D → List ℕ) (K : D → Type 0)
    → IsForm r s F → IsForm q t G → IsForm p u H → IsForm z v K → ((a : A) (b : B) (c : C) (d : D) → spelling (make a b c d) ≡ n ∷ s a ++ (t b ++ (u c ++ v d))) → ((a : A) (b : B) (c : C) (d : D) → F a → G b → H c → K d → IsChange (make a b c d))
    → Arm n (λ o. r o >>= λ a. q a.1 >>= λ b. p b.1 >>= λ c. z c.1 >>= λ d. Some (make a.0 b.0 c.0 d.0, d.1))
arm4 n make r s F q t G p u H z v K one two three four spells fits bytes x rest ok e =
    let a = bind_some (r bytes) (λ a. q a.1 >>= λ b. p b.1 >>= λ c. z c.1 >>= λ d. Some (make a.0 b.0 c.0 d.0, d.1)) (x, rest) e in
    let b = bind_some (q a.0.1) (λ b. p b.1 >>= λ c. z c.1 >>= λ d. Some (make a.0.0 b.0 c.0 d.0, d.1)) (x, rest) a.2 in
    let c = bind_some (p b.0.1) (λ c. z c.1 >>= λ d. Some (make a.0.0 b.0.0 c.0 d.0, d.1)) (x, rest) b.2 in
    let d = bind_some (z c.0.1) (λ d. Some (make a.0.0 b.0.0 c.0.0 d.0, d.1)) (x, rest) c.2 in
    let t0 = one.takes bytes a.0.0 a.0.1 ok a.1 in
    let t1 = two.takes a.0.1 b.0.0 b.0.1 t0.0.rest_fits b.1 in
    let t2 = three.takes b.0.1 c.0.0 c.0.1 t1.0.rest_fits c.1 in
    let t3 = four.takes c.0.1 d.0.0 d.0.1 t2.0.rest_fits d.1 in
    let two_more = took_both b.0.1 (u c.0.0) c.0.1 (v d.0.0) d.0.1 t2.0 t3.0 in
    let three_more = took_both a.0.1 (t b.0.0) b.0.1 (u c.0.0 ++ v d.0.0) d.0.1 t1.0 two_more in
    moved n bytes (s a.0.0 ++ (t b.0.0 ++ (u c.0.0 ++ v d.0.0))) (make a.0.0 b.0.0 c.0.0 d.0.0) x d.0.1 rest d.2 (spells a.0.0 b.0.0 c.0.0 d.0.0)
    (took_both bytes (s a.0.0) a.0.1 (t b.0.0 ++ (u c.0.0 ++ v d.0.0)) d.0.1 t0.0 three_more) (fits a.0.0 b.0.0 c.0.0 d.0.0 t0.1 t1.1 t2.1 t3.1)

-- ---- the other way

pub again1 : {A X : Type 0} (make : A → X) (r : List ℕ → Read A) (s : A → List ℕ) (F : A → Type 0) → IsForm r s F
    → (a : A) (rest : List ℕ) → F a → (r (s a ++ rest) >>= λ a. Some (make a.0, a.1)) ≡ got (make a) rest
again1 make r s F one a rest f = rw (one.again a rest f tt) refl

pub again2 : {A B X : Type 0} (make : A → B → X) (r : List ℕ → Read A) (s : A → List ℕ) (F : A → Type 0) (q : List ℕ → Read B) (t : B → List ℕ) (G : B → Type 0)
    → IsForm r s F → IsForm q t G → (a : A) (b : B) (rest : List ℕ) → F a → G b
    → (r ((s a ++ t b) ++ rest) >>= λ a. q a.1 >>= λ b. Some (make a.0 b.0, b.1)) ≡ got (make a b) rest
again2 make r s F q t G one two a b rest f g =
    let first : r ((s a ++ t b) ++ rest) ≡ got a (t b ++ rest) = ap r (append_assoc (s a) (t b) rest) ∙ one.again a (t b ++ rest) f tt in
    rw (first, two.again b rest g tt) refl

pub again3 : {A B C X : Type 0} (make : A → B → C → X) (r : List ℕ → Read A) (s : A → List ℕ) (F : A → Type 0) (q : List ℕ → Read B) (t : B → List ℕ) (G : B → Type 0) (p : List ℕ → Read C) (u : C → List ℕ) (H : C → Type 0)
    → IsForm r s F → IsForm q t G → IsForm p u H → (a : A) (b : B) (c : C) (rest : List ℕ) → F a → G b → H c
    → (r ((s a ++ (t b ++ u c)) ++ rest) >>= λ a. q a.1 >>= λ b. p b.1 >>= λ c. Some (make a.0 b.0 c.0, c.1)) ≡ got (make a b c) rest
again3 make r s F q t G p u H one two three a b c rest f g h =
    let first : r ((s a ++ (t b ++ u c)) ++ rest) ≡ got a ((t b ++ u c) ++ rest) = ap r (append_assoc (s a) (t b ++ u c) rest) ∙ one.again a ((t b ++ u c) ++ rest) f tt in
    rw first (again2 (λ b c. make a b c) q t G p u H two three b c rest g h)

pub again4 : {A B C D X : Type 0} (make : A → B → C → D → X) (r : List ℕ → Read A) (s : A → List ℕ) (F : A → Type 0) (q : List ℕ → Read B) (t : B → List ℕ) (G : B → Type 0) (p : List ℕ → Read C) (u : C → List ℕ) (H : C → Type 0) (z : List ℕ → Read D) (v : D → List ℕ) (K : D → Type 0)
    → IsForm r s F → IsForm q t G → IsForm p u H → IsForm z v K → (a : A) (b : B) (c : C) (d : D) (rest : List ℕ) → F a → G b → H c → K d
    → (r ((s a ++ (t b ++ (u c ++ v d))) ++ rest) >>= λ a. q a.1 >>= λ b. p b.1 >>= λ c. z c.1 >>= λ d. Some (make a.0 b.0 c.0 d.0, d.1)) ≡ got (make a b c d) rest
again4 make r s F q t G p u H z v K one two three four a b c d rest f g h k =
    let first : r ((s a ++ (t b ++ (u c ++ v d))) ++ rest) ≡ got a ((t b ++ (u c ++ v d)) ++ rest) = ap r (append_assoc (s a) (t b ++ (u c ++ v d)) rest) ∙ one.again a ((t b ++ (u c ++ v d)) ++ rest) f tt in
    rw first (again3 (λ b c d. make a b c d) q t G p u H z v K two three four b c d rest g h k)
