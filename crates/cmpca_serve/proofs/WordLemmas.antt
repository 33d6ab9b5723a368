-- Words and the numbers that they spell.
use Rattle.std.proofs.Common.{◌≡◌, ℕ, ◌^◌, ◌<◌, ◌≤◌, List, [], ◌∷◌, length, map, get_or, Result, Ok, Option, Some, None, arith, ◌∙◌, ap, sym, subst}
use Rattle.std.specs.Prelude.{codes, IfSome}
use Rattle.std.specs.Str.Parse.{ParsesUnsigned}
use Rattle.std.proofs.lemmas.Fmt.{parse-decimal}
use Rattle.cmpca_serve.specs.declared.words.ServePlan.{ServePlan}
use Rattle.cmpca_serve.specs.Words.{IsNumber, Serves}

-- a number's word parses as the number
pub parses : {E : Type 0} (last n : ℕ) (word : List ℕ) (r : Result ℕ E) → last < 2 ^ 32 → ParsesUnsigned 32 10 word r → IsNumber last word n → r ≡ Ok n
parses last n word r fits parsed is = parse-decimal 32 n word r (omega (arith, fits, is.2)) (omega (arith, fits, is.2)) is.0 parsed

-- so it is the one that was parsed
pub is_parsed : {E : Type 0} (last m n : ℕ) (word : List ℕ) (r : Result ℕ E) → last < 2 ^ 32 → ParsesUnsigned 32 10 word r → r ≡ Ok m → IsNumber last word n → m ≡ n
is_parsed last m n word r fits parsed was is = cc (was, parses last n word r fits parsed is)

-- the words that ask for serving, by their places
pub serves_seven : {X : Type 0} (spell : X → List ℕ) (xs : List X) (verb port workers connections : X) (plan : ServePlan) → 7 ≤ length xs → length xs < 8
    → verb ≡ get_or xs 2 verb → port ≡ get_or xs 3 port → workers ≡ get_or xs 4 workers → connections ≡ get_or xs 5 connections
    → spell verb ≡ codes "serve" → IsNumber 65535 (spell port) plan.port → IsNumber 16 (spell workers) plan.workers → IsNumber 1000000 (spell connections) plan.connections
    → Serves (map spell xs) plan
serves_seven spell (a ∷ b ∷ c ∷ d ∷ e ∷ f ∷ g ∷ []) verb port workers connections plan least most at2 at3 at4 at5 is p w n = (
  ap spell (sym at2) ∙ is,
  subst (λ x. IsNumber 65535 (spell x) plan.port) at3 p,
  subst (λ x. IsNumber 16 (spell x) plan.workers) at4 w,
  subst (λ x. IsNumber 1000000 (spell x) plan.connections) at5 n,
)
serves_seven spell [] verb port workers connections plan least most at2 at3 at4 at5 is p w n = absurd (omega (arith, least))
serves_seven spell (a ∷ []) verb port workers connections plan least most at2 at3 at4 at5 is p w n = absurd (omega (arith, least))
serves_seven spell (a ∷ b ∷ []) verb port workers connections plan least most at2 at3 at4 at5 is p w n = absurd (omega (arith, least))
serves_seven spell (a ∷ b ∷ c ∷ []) verb port workers connections plan least most at2 at3 at4 at5 is p w n = absurd (omega (arith, least))
serves_seven spell (a ∷ b ∷ c ∷ d ∷ []) verb port workers connections plan least most at2 at3 at4 at5 is p w n = absurd (omega (arith, least))
serves_seven spell (a ∷ b ∷ c ∷ d ∷ e ∷ []) verb port workers connections plan least most at2 at3 at4 at5 is p w n = absurd (omega (arith, least))
serves_seven spell (a ∷ b ∷ c ∷ d ∷ e ∷ f ∷ []) verb port workers connections plan least most at2 at3 at4 at5 is p w n = absurd (omega (arith, least))
serves_seven spell (a ∷ b ∷ c ∷ d ∷ e ∷ f ∷ g ∷ h ∷ xs) verb port workers connections plan least most at2 at3 at4 at5 is p w n = absurd (omega (arith, most))

-- what they ask for
pub record Asked {X : Type 0} (spell : X → List ℕ) (verb port workers connections : X) (plan : ServePlan) : Type 0 where
  pub is : spell verb ≡ codes "serve"
  pub port_is : IsNumber 65535 (spell port) plan.port
  pub workers_are : IsNumber 16 (spell workers) plan.workers
  pub connections_are : IsNumber 1000000 (spell connections) plan.connections

pub seven_ask : {X : Type 0} (spell : X → List ℕ) (xs : List X) (verb port workers connections : X) (plan : ServePlan)
    → verb ≡ get_or xs 2 verb → port ≡ get_or xs 3 port → workers ≡ get_or xs 4 workers → connections ≡ get_or xs 5 connections
    → Serves (map spell xs) plan → Asked spell verb port workers connections plan
seven_ask spell (a ∷ b ∷ c ∷ d ∷ e ∷ f ∷ g ∷ []) verb port workers connections plan at2 at3 at4 at5 asks = record {
  is = ap spell at2 ∙ asks.0;
  port_is = subst (λ x. IsNumber 65535 (spell x) plan.port) (sym at3) asks.1;
  workers_are = subst (λ x. IsNumber 16 (spell x) plan.workers) (sym at4) asks.2;
  connections_are = subst (λ x. IsNumber 1000000 (spell x) plan.connections) (sym at5) asks.3;
}
seven_ask spell [] verb port workers connections plan at2 at3 at4 at5 asks = absurd asks
seven_ask spell (a ∷ []) verb port workers connections plan at2 at3 at4 at5 asks = absurd asks
seven_ask spell (a ∷ b ∷ []) verb port workers connections plan at2 at3 at4 at5 asks = absurd asks
seven_ask spell (a ∷ b ∷ c ∷ []) verb port workers connections plan at2 at3 at4 at5 asks = absurd asks
seven_ask spell (a ∷ b ∷ c ∷ d ∷ []) verb port workers connections plan at2 at3 at4 at5 asks = absurd asks
seven_ask spell (a ∷ b ∷ c ∷ d ∷ e ∷ []) verb port workers connections plan at2 at3 at4 at5 asks = absurd asks
seven_ask spell (a ∷ b ∷ c ∷ d ∷ e ∷ f ∷ []) verb port workers connections plan at2 at3 at4 at5 asks = absurd asks
seven_ask spell (a ∷ b ∷ c ∷ d ∷ e ∷ f ∷ g ∷ h ∷ xs) verb port workers connections plan at2 at3 at4 at5 asks = absurd asks

pub if_some_then : {X : Type 0} (P Q : X → Type 0) (o : Option X) → IfSome o P → ((x : X) → P x → Q x) → IfSome o Q
if_some_then P Q None has more = tt
if_some_then P Q (Some x) has more = more x has
