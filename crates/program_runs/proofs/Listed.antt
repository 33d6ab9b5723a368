-- The runs of the operator's commands on a founded disk: enlist, dismiss, release and deny.
use Rattle.std.proofs.Common.{◌≡◌, ℕ, List, [], ◌∷◌, ◌++◌, Option, Some, None, Result, Ok, Err, refl, sym, ◌∙◌, inl, inr}
use Rattle.std.specs.Prelude.{codes}
use Rattle.std.proofs.lemmas.List.{append_cancel_left}
use Rattle.cmp_ports.specs.declared.disk.Disk.{Ghosts}
use Rattle.cmp_ports.specs.declared.order.Order.{Order}
use Rattle.cmp_ports.specs.declared.order.Order.TheVariants as orders
use Rattle.deal_changes.specs.declared.change.Kind.{Kind}
use Rattle.deal_changes.specs.declared.change.Credential.{Credential}
use Rattle.deal_changes.specs.declared.change.Change.{Change}
use Rattle.deal_changes.specs.declared.change.Change.TheVariants as changes
use Rattle.deal_changes.specs.declared.change.Who.TheVariants.{Listed}
use Rattle.deal_model.specs.Views.{History}
use Rattle.registry.specs.declared.fault.RegFault.{RegFault}
use Rattle.registry.specs.Credentials.{credentials_in}
use Rattle.desk.specs.declared.answers.Listing.TheVariants as listing
use Rattle.desk.specs.declared.answers.Ordered.TheVariants as ordered
use Rattle.desk.specs.declared.answers.Listing.{Listing as Outcome}
use Rattle.desk.specs.declared.answers.Ordered.{Ordered}
use Rattle.desk.specs.Due.{event_time}
use Rattle.desk.specs.Calls.{IsOrdered}
use Rattle.desk.specs.Listings.{IsEnlisted, IsDismissed}
use Rattle.signed_texts.specs.Laws.{Stands}
use Rattle.one_history.specs.Visits.{Ending, Finding, Nothing, Visit}
use Rattle.one_history.specs.Causes.{Cause, Listing, Dismissal, Commanded, Asked}
use Rattle.one_history.specs.Headline.{MayCause}
use Rattle.cmpca_tool.specs.Lines.{line}
use Rattle.cmpca_tool.specs.Sources.{Devices}
use Rattle.cmpca_tool.specs.Changes.{run_of, Deed}
use Rattle.cmpca_tool.specs.Deeds.{listing_status, ordered_status, ListsRead, Enlists, IsFileListed, Dismisses, IsDismissedAt, Obeys, IsOrderedAt}
use Rattle.cmpca_tool.specs.Reply.{IsChangeReply, IsEnlistReply, IsOrderReply, IsReply}
use Rattle.cmpca_tool.specs.declared.status.Status.{Status}
use Rattle.cmpca_tool.specs.declared.status.Status.TheVariants.{Done}
use Rattle.cmpca_tool.specs.declared.words.Command.{Command}
use Rattle.cmpca_tool.specs.declared.words.Command.TheVariants.{Enlist, Dismiss, Release, Deny}
use Rattle.program_runs.specs.Runs.{AreCauses, AreAnswers, Acknowledges, Shows, IsRun}
use Rattle.program_runs.proofs.Undone.{never_done, file_undone, short_undone}
use Rattle.program_runs.proofs.Changed.{IsVisited, changed}
use Rattle.program_runs.proofs.Spared.{unanswered, quiet_run, spared_run}

-- ---- what is told as done

-- the history is one change further
abbrev pub Grows : History → History → Type 0
Grows h g = (c : Change) × (g ≡ h ++ c ∷ [])

-- one change is made
abbrev pub IsOne : List Change → Type 0
IsOne cs = (c : Change) × (cs ≡ c ∷ [])

enlisted_done : (ended : Outcome) (list : List Credential) (time : ℕ) (h g : History) (e : Option Change) → IsEnlisted h None list time ended g e → listing_status ended ≡ Done → Grows h g
enlisted_done (listing.Done place) list time h g e (free, added, placed) done = (changes.Enlist time list, added.1)
enlisted_done (listing.InUse index) list time h g e is done = absurd cc
enlisted_done listing.Unknown list time h g e is done = absurd cc
enlisted_done listing.Already list time h g e is done = absurd cc
enlisted_done listing.Full list time h g e is done = absurd cc
enlisted_done listing.DiskFault list time h g e is done = absurd cc
enlisted_done listing.NoMemory list time h g e is done = absurd cc

read_done : (told : Result (List Credential) RegFault) (time : ℕ) (h : History) (status : Status) (text : List ℕ) (g : History) (e : Option Change) → ListsRead told time h status text g e → status ≡ Done → Grows h g
read_done (Ok list) time h status text g e is done = enlisted_done is.ended list time h g e is.is_ended (sym is.ends ∙ done)
read_done (Err fault) time h status text g e (ends, says, same) done = absurd (file_undone fault (sym ends ∙ done))

enlist_done : (Failed : Type 0) (file : List ℕ) (now : ℕ) (h : History) (status : Status) (text : List ℕ) (g : History) (e : Option Change) → Enlists Failed file now h status text g e → status ≡ Done → Grows h g
enlist_done Failed file now h status text g e (inl read) done = read_done (credentials_in file) (event_time h now) h status text g e read done
enlist_done Failed file now h status text g e (inr (cut, same)) done = absurd (short_undone Failed status text cut done)

dismissed_done : (ended : Outcome) (kind : Kind) (kid : List ℕ) (time : ℕ) (h g : History) (e : Option Change) → IsDismissed h None kind kid time ended g e → listing_status ended ≡ Done → Grows h g
dismissed_done (listing.Done place) kind kid time h g e (can, added, placed) done = (changes.Dismiss time (Listed kind kid), added.1)
dismissed_done (listing.InUse index) kind kid time h g e is done = absurd cc
dismissed_done listing.Unknown kind kid time h g e is done = absurd cc
dismissed_done listing.Already kind kid time h g e is done = absurd cc
dismissed_done listing.Full kind kid time h g e is done = absurd cc
dismissed_done listing.DiskFault kind kid time h g e is done = absurd cc
dismissed_done listing.NoMemory kind kid time h g e is done = absurd cc

ordered_done : (ended : Ordered) (order : Order) (time : ℕ) (h g : History) (e : Option Change) → IsOrdered h None order time ended g e → ordered_status ended ≡ Done → Grows h g
ordered_done (ordered.Done place) order time h g e ((awaits, (c, is, added)), placed) done = (c, added.1)
ordered_done ordered.NotHeld order time h g e is done = absurd cc
ordered_done ordered.Full order time h g e is done = absurd cc
ordered_done ordered.DiskFault order time h g e is done = absurd cc
ordered_done ordered.NoMemory order time h g e is done = absurd cc

-- ---- a command that answers no message

-- the one cause of a run
pub sole_cause : (cause : Cause) (now : ℕ) → Stands {X = Cause × ℕ} (cause, now) ((cause, now) ∷ [])
sole_cause cause now = (0, refl)

module _ {D : Type 0} (g : Ghosts D) (old new : D) (IsReading : ℕ → Type 0) (IsDraw : Option (List ℕ) → Type 0) (input key : List ℕ) (status : Status) (text : List ℕ) (ending : Ending) (content : List ℕ) (tells : g.content old ≡ Some content) where
  -- what it makes comes of its causes, and what it tells as done is one change
  change_run : (command : Option Command) (causes : List (Cause × ℕ)) (Acts : Deed) (IsOwn : History → Change → Type 0) → IsChangeReply (run_of g.content g.images g.moment g.left_since old new) Acts IsOwn status text
      → ((h : History) (c : Change) → IsOwn h c → MayCause (unanswered causes) h c) → ((h k : History) (e : Option Change) → Acts h status text k e → status ≡ Done → Grows h k)
      → AreCauses IsReading IsDraw input key command causes → AreAnswers input key status text command [] → ((cs : List Change) → (status ≡ Done → IsOne cs) → Acknowledges status command cs) → ((finding : Finding) → Shows status text command finding)
      → IsRun g old new IsReading IsDraw command input key status text ending
  change_run command causes Acts IsOwn (inl (fault, same)) each grows are none told shows =
      spared_run g old new IsReading IsDraw command input key status text ending content causes tells same are none (told [] (λ done. absurd (never_done fault.fault (sym fault.ends ∙ done)))) (shows Nothing)
  change_run command causes Acts IsOwn (inr x) each grows are none told shows = by (changed g old new Acts IsOwn status text (unanswered causes) ending content tells x (each x.before))
    where
      one : (cs : List Change) → x.before ++ cs ≡ x.after → status ≡ Done → IsOne cs
      one cs joins done = let grown = grows x.before x.after x.doubt x.acts done in (grown.0, append_cancel_left x.before cs (grown.0 ∷ []) (joins ∙ grown.1))

      by : (v : Visit D Asked) × IsVisited g old new (unanswered causes) ending x.before x.after v → IsRun g old new IsReading IsDraw command input key status text ending
      by (v, is) = quiet_run g old new IsReading IsDraw command input key status text ending causes v is.asks is.from is.to is.ends is.is are none (told v.made (one v.made is.made)) (shows v.finding)

  -- ---- each command

  pub enlist_run : (devices : Devices) → IsReply (Some Enlist) devices IsReading IsDraw (run_of g.content g.images g.moment g.left_since old new) input key status text → IsRun g old new IsReading IsDraw (Some Enlist) input key status text ending
  enlist_run devices (now, reading, reply) = change_run (Some Enlist) ((Listing input, now) ∷ []) (Enlists devices.input.failed input now) (IsFileListed input now) (weaker reply)
      (λ h c own. ((Listing input, now), sole_cause (Listing input) now, (own.list, own.read, own.lists))) (λ h k e acts done. enlist_done devices.input.failed input now h status text k e acts done) (now, reading, refl) refl (λ cs a. a) (λ _. tt)
    where
      weaker : IsEnlistReply (run_of g.content g.images g.moment g.left_since old new) devices.input now input status text → IsChangeReply (run_of g.content g.images g.moment g.left_since old new) (Enlists devices.input.failed input now) (IsFileListed input now) status text
      weaker (inl (fault, same, unread)) = inl (fault, same)
      weaker (inr x) = inr x

  pub dismiss_run : (devices : Devices) (kind : Kind) (id : List ℕ) → IsReply (Some (Dismiss kind id)) devices IsReading IsDraw (run_of g.content g.images g.moment g.left_since old new) input key status text
      → IsRun g old new IsReading IsDraw (Some (Dismiss kind id)) input key status text ending
  dismiss_run devices kind id (now, reading, reply) = change_run (Some (Dismiss kind id)) ((Dismissal kind id, now) ∷ []) (Dismisses kind id now) (IsDismissedAt kind id now) reply
      (λ h c own. ((Dismissal kind id, now), sole_cause (Dismissal kind id) now, own)) (λ h k e acts done. dismissed_done acts.ended kind id (event_time h now) h k e acts.is_ended (sym acts.ends ∙ done)) (now, reading, refl) refl (λ cs a. a) (λ _. tt)

  obey_run : (command : Option Command) (order : Order) (said : List ℕ) (now : ℕ) → IsOrderReply (run_of g.content g.images g.moment g.left_since old new) order said now status text
      → AreCauses IsReading IsDraw input key command ((Commanded order, now) ∷ []) → AreAnswers input key status text command [] → ((cs : List Change) → (status ≡ Done → IsOne cs) → Acknowledges status command cs) → ((finding : Finding) → Shows status text command finding)
      → IsRun g old new IsReading IsDraw command input key status text ending
  obey_run command order said now reply are none told shows = change_run command ((Commanded order, now) ∷ []) (Obeys order said now) (IsOrderedAt order now) reply
      (λ h c own. ((Commanded order, now), sole_cause (Commanded order) now, own)) (λ h k e acts done. ordered_done acts.ended order (event_time h now) h k e acts.is_ended (sym acts.ends ∙ done)) are none told shows

  pub release_run : (devices : Devices) (tid : List ℕ) → IsReply (Some (Release tid)) devices IsReading IsDraw (run_of g.content g.images g.moment g.left_since old new) input key status text
      → IsRun g old new IsReading IsDraw (Some (Release tid)) input key status text ending
  release_run devices tid (now, reading, reply) = obey_run (Some (Release tid)) (orders.Release tid) (line (codes "released")) now reply (now, reading, refl) refl (λ cs a. a) (λ _. tt)

  pub deny_run : (devices : Devices) (tid : List ℕ) → IsReply (Some (Deny tid)) devices IsReading IsDraw (run_of g.content g.images g.moment g.left_since old new) input key status text
      → IsRun g old new IsReading IsDraw (Some (Deny tid)) input key status text ending
  deny_run devices tid (now, reading, reply) = obey_run (Some (Deny tid)) (orders.Deny tid) (line (codes "denied")) now reply (now, reading, refl) refl (λ cs a. a) (λ _. tt)
