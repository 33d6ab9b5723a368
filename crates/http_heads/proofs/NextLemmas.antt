-- The next request, from its head and what came behind it.
use Rattle.std.specs.Prelude.{◌≡◌, ℕ, ◌≤◌, ◌<◌, Bool, List, ◌++◌, length, take, drop, Option, Some, None, IfSome}
use Rattle.std.proofs.Common.{arith, refl, sym, ap, ◌∙◌, append_assoc, take-append-drop, inr}
use Rattle.std.proofs.lemmas.List.{length-take-le}
use Rattle.std.specs.Io.KnownBytes.{Keeps, IsAtEnd, prepend_known}
use Rattle.http_heads.specs.declared.look.Asked.{Asked}
use Rattle.http_heads.specs.declared.next.Next.{Next}
use Rattle.http_heads.specs.declared.next.Next.TheVariants.{Request, Ended, Reject, ReadFault, NoMemory}
use Rattle.http_heads.specs.Looks.{IsServedHead}
use Rattle.http_heads.specs.Nexts.{IsNext, IsTaken, posted}
use Rattle.http_heads.specs.Requests.{IsRequest, IsRejected}
use Rattle.http_heads.proofs.HeadLemmas.{head_before}
use Rattle.http_heads.proofs.StreamLemmas.{append_none}

-- the request, of all octets
request_of : (old came new body xs ys : List ℕ) (asks : Bool) (a : Asked) → IsServedHead old a → came ++ ys ≡ drop a.head old ++ xs → a.body ≤ length came
    → body ≡ take a.body came → new ≡ drop a.body came → asks ≡ a.asks → IsRequest (old ++ xs) (posted body asks) (new ++ ys)
request_of old came new body xs ys asks a served same enough body_is new_is asks_is =
    let parts : came ≡ body ++ new = sym (take-append-drop a.body came) ∙ (rw (← body_is, ← new_is) refl) in
    record {
      head = served.head;
      behind = drop a.head old ++ xs;
      begins = head_before old xs served.head (drop a.head old) served.begins;
      served = served.served;
      content = sym same ∙ ap (λ (l : List ℕ). l ++ ys) parts ∙ append_assoc body new ys;
      whole = ap length body_is ∙ length-take-le a.body came enough ∙ served.body;
      end_asked = asks_is ∙ served.asks;
    }

pub served_next : (old came new : List ℕ) (left_old left_new : Option (List ℕ)) (a : Asked) (result : Next) → IsServedHead old a
    → Keeps (prepend_known (drop a.head old) left_old) (prepend_known came left_new) → a.body ≤ length came → IsTaken came new a result
    → IfSome (prepend_known old left_old) (λ (all : List ℕ). IsNext all (prepend_known new left_new) result)
served_next old came new None left_new a result served same enough taken = tt
served_next old came new (Some xs) None a result served same enough taken = absurd same
served_next old came new (Some xs) (Some ys) a (Request body asks) served same enough taken =
    request_of old came new body xs ys asks a served same enough taken.0 taken.1 taken.2
served_next old came new (Some xs) (Some ys) a NoMemory served same enough taken = tt
served_next old came new (Some xs) (Some ys) a Ended served same enough taken = absurd taken
served_next old came new (Some xs) (Some ys) a (Reject status) served same enough taken = absurd taken
served_next old came new (Some xs) (Some ys) a ReadFault served same enough taken = absurd taken

-- a body that is cut off
pub cut_off : (old came : List ℕ) (left_old left_new : Option (List ℕ)) (a : Asked) → IsServedHead old a
    → Keeps (prepend_known (drop a.head old) left_old) (prepend_known came left_new) → length came < a.body → IsAtEnd left_new
    → IfSome (prepend_known old left_old) (λ (all : List ℕ). IsRejected all 400)
cut_off old came None left_new a served same short end = tt
cut_off old came (Some xs) None a served same short end = absurd same
cut_off old came (Some xs) (Some ys) a served same short end =
    let all : came ≡ drop a.head old ++ xs = sym (append_none came) ∙ ap (λ (l : List ℕ). came ++ l) (sym end) ∙ same in
    inr (record {
      head = served.head;
      behind = drop a.head old ++ xs;
      begins = head_before old xs served.head (drop a.head old) served.begins;
      why = inr (served.served, omega (arith, ap length all, short, served.body), refl);
    })
