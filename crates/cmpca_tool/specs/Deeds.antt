-- What the commands do that change a history by one change: from the history h before to the history g after and the change
-- e that is in doubt then, with the status and the text of the reply.
use Rattle.std.specs.Prelude.{◌≡◌, ◌≢◌, ◌⊎◌, ℕ, List, ◌∷◌, ◌++◌, length, Option, None, IfSome, Result, Ok, Err, codes}
use Rattle.std.specs.Fmt.{decimal}
use Rattle.cmp_ports.specs.declared.order.Order.{Order}
use Rattle.deal_changes.specs.declared.change.Kind.{Kind}
use Rattle.deal_changes.specs.declared.change.Credential.{Credential}
use Rattle.deal_changes.specs.declared.change.Change.{Change}
use Rattle.deal_model.specs.Views.{History}
use Rattle.registry.specs.declared.fault.RegFault.{RegFault}
use Rattle.registry.specs.declared.fault.RegFault.TheVariants as files
use Rattle.registry.specs.Words.{cause_word, setting_word}
use Rattle.registry.specs.Credentials.{credentials_in}
use Rattle.desk.specs.declared.answers.Listing.{Listing}
use Rattle.desk.specs.declared.answers.Listing.TheVariants as listing
use Rattle.desk.specs.declared.answers.Ordered.{Ordered}
use Rattle.desk.specs.declared.answers.Ordered.TheVariants as ordered
use Rattle.desk.specs.Due.{event_time}
use Rattle.desk.specs.Calls.{IsSame, IsOrder, IsOrdered}
use Rattle.desk.specs.Listings.{IsEnlisting, IsEnlisted, IsDismissal, IsDismissed}
use Rattle.cmpca_tool.specs.Lines.{line}
use Rattle.cmpca_tool.specs.declared.file.Unread.{Unread}
use Rattle.cmpca_tool.specs.declared.file.Unread.TheVariants.{Bad}
use Rattle.cmpca_tool.specs.declared.file.Unread.TheVariants as unread
use Rattle.cmpca_tool.specs.declared.status.Status.{Status}
use Rattle.cmpca_tool.specs.declared.status.Status.TheVariants.{Done, Refused, ReadFault, DiskFault, NoMemory}

-- ---- how the desk's calls are told

-- of a listing or a dismissal; done is the line where it was done
abbrev pub listing_status : Listing → Status
listing_status (listing.Done place) = Done
listing_status (listing.InUse index) = Refused
listing_status listing.Unknown = Refused
listing_status listing.Already = Refused
listing_status listing.Full = Refused
listing_status listing.DiskFault = DiskFault
listing_status listing.NoMemory = NoMemory

abbrev pub listing_line : List ℕ → Listing → List ℕ
listing_line done (listing.Done place) = done
listing_line done (listing.InUse index) = line (codes "refused reference in use")
listing_line done listing.Unknown = line (codes "refused unknown credential")
listing_line done listing.Already = line (codes "refused already dismissed")
listing_line done listing.Full = line (codes "refused journal full")
listing_line done listing.DiskFault = line (codes "disk fault")
listing_line done listing.NoMemory = line (codes "no memory")

-- of an order
abbrev pub ordered_status : Ordered → Status
ordered_status (ordered.Done place) = Done
ordered_status ordered.NotHeld = Refused
ordered_status ordered.Full = Refused
ordered_status ordered.DiskFault = DiskFault
ordered_status ordered.NoMemory = NoMemory

abbrev pub ordered_line : List ℕ → Ordered → List ℕ
ordered_line done (ordered.Done place) = done
ordered_line done ordered.NotHeld = line (codes "refused not held")
ordered_line done ordered.Full = line (codes "refused journal full")
ordered_line done ordered.DiskFault = line (codes "disk fault")
ordered_line done ordered.NoMemory = line (codes "no memory")

-- ---- enlist

-- how a file's fault is told, which is a refusal unless memory ran out
abbrev pub file_line : RegFault → List ℕ
file_line files.BadToml = line (codes "refused bad toml")
file_line files.BadCount = line (codes "refused bad count")
file_line (files.BadCredential index cause) = line (codes "refused bad credential " ++ decimal index ++ 32 ∷ cause_word cause)
file_line (files.BadSetting key) = line (codes "refused bad setting " ++ setting_word key)
file_line files.NoMemory = line (codes "no memory")

abbrev pub file_status : RegFault → Status
file_status files.BadToml = Refused
file_status files.BadCount = Refused
file_status (files.BadCredential index cause) = Refused
file_status (files.BadSetting key) = Refused
file_status files.NoMemory = NoMemory

abbrev pub enlisted_line : ℕ → List ℕ
enlisted_line n = line (codes "enlisted " ++ decimal n)

-- all of the list are listed by one change, or it is told why they aren't
pub record Lists (list : List Credential) (time : ℕ) (h : History) (status : Status) (text : List ℕ) (g : History) (e : Option Change) : Type 0 where
  pub ended : Listing
  pub is_ended : IsEnlisted h None list time ended g e
  pub ends : status ≡ listing_status ended
  pub says : text ≡ listing_line (enlisted_line (length list)) ended

-- by what the file tells: a list, or the first fault
abbrev pub ListsRead : Result (List Credential) RegFault → ℕ → History → Status → List ℕ → History → Option Change → Type 0
ListsRead (Ok list) time h status text g e = Lists list time h status text g e
ListsRead (Err fault) time h status text g e = (status ≡ file_status fault) × (text ≡ file_line fault) × IsSame h None g e

-- what is read fails, which has this cause, or memory runs out, before anything is done
abbrev pub IsCutShort : Type 0 → Status → List ℕ → Type 0
IsCutShort Failed ReadFault text = Failed × (text ≡ line (codes "read fault"))
IsCutShort Failed NoMemory text = text ≡ line (codes "no memory")
IsCutShort Failed _ text = ⊥

-- what the file tells that the source had left
pub record IsFile (left : Option (List ℕ)) (told : Result (List Credential) RegFault) : Type 0 where
  pub file : List ℕ
  pub whole : IfSome left (λ all. all ≡ file)
  pub tells : credentials_in file ≡ told

-- why there is no list: a fault of the file, but for want of memory; or of the input
abbrev pub IsUnlisted : Option (List ℕ) → Unread → Type 0
IsUnlisted left (Bad fault) = (fault ≢ files.NoMemory) → IsFile left (Err fault)
IsUnlisted left unread.ReadFault = Unit {0}

-- the reply then; want of memory comes besides
abbrev pub IsUnreadReply : Unread → Status → List ℕ → Type 0
IsUnreadReply (Bad fault) status text = ((status ≡ file_status fault) × (text ≡ file_line fault)) ⊎ ((status ≡ NoMemory) × (text ≡ line (codes "no memory")))
IsUnreadReply unread.ReadFault status text = (status ≡ ReadFault) × (text ≡ line (codes "read fault"))

-- The credentials of the file are listed at the clock's reading; or the input failed, or memory ran out.
abbrev pub Enlists : Type 0 → List ℕ → ℕ → History → Status → List ℕ → History → Option Change → Type 0
Enlists Failed file now h status text g e = ListsRead (credentials_in file) (event_time h now) h status text g e ⊎ (IsCutShort Failed status text × IsSame h None g e)

-- the one change that it may add
pub record IsFileListed (file : List ℕ) (now : ℕ) (h : History) (c : Change) : Type 0 where
  pub list : List Credential
  pub read : credentials_in file ≡ Ok list
  pub lists : IsEnlisting list (event_time h now) c

-- ---- dismiss

-- The credential of this kind and identifier is dismissed at the clock's reading, or it is told why it isn't.
pub record Dismisses (kind : Kind) (kid : List ℕ) (now : ℕ) (h : History) (status : Status) (text : List ℕ) (g : History) (e : Option Change) : Type 0 where
  pub ended : Listing
  pub is_ended : IsDismissed h None kind kid (event_time h now) ended g e
  pub ends : status ≡ listing_status ended
  pub says : text ≡ listing_line (line (codes "dismissed")) ended

-- the one change that it may add
abbrev pub IsDismissedAt : Kind → List ℕ → ℕ → History → Change → Type 0
IsDismissedAt kind kid now h c = IsDismissal kind kid (event_time h now) c

-- ---- release and deny

-- The order is obeyed at the clock's reading, which this line tells, or it is told why it isn't.
pub record Obeys (order : Order) (done : List ℕ) (now : ℕ) (h : History) (status : Status) (text : List ℕ) (g : History) (e : Option Change) : Type 0 where
  pub ended : Ordered
  pub is_ended : IsOrdered h None order (event_time h now) ended g e
  pub ends : status ≡ ordered_status ended
  pub says : text ≡ ordered_line done ended

-- the one change that it may add
abbrev pub IsOrderedAt : Order → ℕ → History → Change → Type 0
IsOrderedAt order now h c = IsOrder order (event_time h now) c
