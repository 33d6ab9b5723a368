-- by what the message is about
use Rattle.std.proofs.Common.{◌≡◌, refl, sym, ◌∙◌}
use Rattle.intake.proofs.possession.is_possessed.Goals as goal

pub returns-in-Enrols : goal.returns-in-Enrols
returns-in-Enrols c = λ hashes bytes k checked. rw (c.about.ensures.facts hashes k.is_proven checked.proven.0, c.in-Enrols.is) (c.shows_possession.ensures k.is_proven checked.proven)

pub returns-in-Confirms : goal.returns-in-Confirms
returns-in-Confirms c = λ hashes bytes k checked. rw (c.about.ensures.facts hashes k.is_proven checked.proven.0, c.in-Confirms.is) refl

pub returns-in-Polls : goal.returns-in-Polls
returns-in-Polls c = λ hashes bytes k checked. rw (c.about.ensures.facts hashes k.is_proven checked.proven.0, c.in-Polls.is) refl

pub returns-in-Withdraws : goal.returns-in-Withdraws
returns-in-Withdraws c = λ hashes bytes k checked. rw (c.about.ensures.facts hashes k.is_proven checked.proven.0, c.in-Withdraws.is) refl

pub returns-in-Nests : goal.returns-in-Nests
returns-in-Nests c = λ hashes bytes k checked. rw (c.about.ensures.facts hashes k.is_proven checked.proven.0, c.in-Nests.is) refl

pub returns-in-Other : goal.returns-in-Other
returns-in-Other c = λ hashes bytes k checked. rw (c.about.ensures.facts hashes k.is_proven checked.proven.0, c.in-Other.is) refl
