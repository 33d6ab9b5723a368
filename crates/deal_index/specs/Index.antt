-- What an index of a history keeps.
use Rattle.std.specs.Prelude.{◌≡◌, ℕ, List, Some, None, if◌then◌else◌}
use Rattle.std.specs.Option.{option_or}
use Rattle.std.specs.List.{list_any}
use Rattle.std.specs.Str.{bytes_eq}
use Rattle.std.specs.HashMap.{HashMap, get}
use Rattle.deal_model.specs.Views.{History, is_stamped_for}
use Rattle.deal_index.specs.declared.question.Question.{Question}
use Rattle.deal_index.specs.Places.{place_of, last_place_of}
use Rattle.deal_index.specs.Questions.{same_question, is_asked_for}

-- each question has the place of the first change that it asks for
abbrev pub AreFirsts : {S : Type 0} → History → HashMap Question ℕ S → Type 0
AreFirsts h m = (q : Question) → get same_question m q ≡ place_of (is_asked_for q) h

-- each transaction has the place of the last change that a message of it made
abbrev pub AreLasts : {S : Type 0} → History → HashMap (List ℕ) ℕ S → Type 0
AreLasts h m = (tid : List ℕ) → get bytes_eq m tid ≡ last_place_of (is_stamped_for tid) h

-- the place is noted for each of these questions that has none yet
abbrev pub Notes : {S : Type 0} → List Question → ℕ → HashMap Question ℕ S → HashMap Question ℕ S → Type 0
Notes asked place m n = (q : Question) → get same_question n q ≡ option_or (get same_question m q) (if list_any (λ own. same_question own q) asked then Some place else None)
