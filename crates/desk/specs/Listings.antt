-- How credentials are listed and dismissed, from the history h and the change d in doubt before to those after, g and e.
use Rattle.std.specs.Prelude.{◌≡◌, ℕ, ◌<◌, Bool, false, List, [], ◌∷◌, length, Option, Some, IsTrue}
use Rattle.std.specs.List.{list_any, position, AllByRecursion}
use Rattle.deal_changes.specs.declared.change.Kind.{Kind}
use Rattle.deal_changes.specs.declared.change.Who.TheVariants.{Listed}
use Rattle.deal_changes.specs.declared.change.Credential.{Credential}
use Rattle.deal_changes.specs.declared.change.Change.{Change}
use Rattle.deal_changes.specs.declared.change.Change.TheVariants.{Enlist, Dismiss}
use Rattle.deal_model.specs.Views.{History, is_entry, is_listed, is_dismissed}
use Rattle.deal_model.specs.Rules.{IsNamed, stands}
use Rattle.desk.specs.declared.answers.Added.{Added}
use Rattle.desk.specs.declared.answers.Added.TheVariants as added
use Rattle.desk.specs.declared.answers.Listing.{Listing}
use Rattle.desk.specs.declared.answers.Listing.TheVariants as listing
use Rattle.desk.specs.Calls.{IsSame, IsAdded}

-- how a listing or a dismissal ends whose change was added so
abbrev pub listing_end : Added → ℕ → Listing
listing_end added.Done place = listing.Done place
listing_end added.Full place = listing.Full
listing_end added.DiskFault place = listing.DiskFault
listing_end added.NoMemory place = listing.NoMemory

-- ---- lists

-- each credential is of its form, with its rights in five bits, and stands once in the list
abbrev pub AreFit : List Credential → Type 0
AreFit [] = Unit {0}
AreFit (c ∷ cs) = IsNamed c.kind c.kid c.material × (c.rights < 32) × (list_any (is_entry c.kind c.kid) cs ≡ false) × AreFit cs

-- its reference was ever listed, or its key identifier stands somewhere
abbrev pub is_used : History → Credential → Bool
is_used h c = stands h c.kind c.kid

-- none of these is in use
abbrev pub AreFree : History → List Credential → Type 0
AreFree h list = AllByRecursion (λ c. is_used h c ≡ false) list

-- the change lists these at this time
abbrev pub IsEnlisting : List Credential → ℕ → Change → Type 0
IsEnlisting list time c = c ≡ Enlist time list

-- all are listed by one change; InUse exactly where one is in use, with the index of the first such
abbrev pub IsEnlisted : History → Option Change → List Credential → ℕ → Listing → History → Option Change → Type 0
IsEnlisted h d list time (listing.Done place) g e = AreFree h list × IsAdded h d (Enlist time list) added.Done g e × (place ≡ length g)
IsEnlisted h d list time (listing.InUse index) g e = (position (is_used h) list ≡ Some index) × IsSame h d g e
IsEnlisted h d list time listing.Unknown g e = ⊥
IsEnlisted h d list time listing.Already g e = ⊥
IsEnlisted h d list time listing.Full g e = AreFree h list × IsAdded h d (Enlist time list) added.Full g e
IsEnlisted h d list time listing.DiskFault g e = AreFree h list × IsAdded h d (Enlist time list) added.DiskFault g e
IsEnlisted h d list time listing.NoMemory g e = IsSame h d g e

-- ---- dismissals

-- the credential was listed and isn't dismissed
abbrev pub CanDismiss : History → Kind → List ℕ → Type 0
CanDismiss h kind kid = IsTrue (is_listed h kind kid) × (is_dismissed h kind kid ≡ false)

-- the change dismisses the credential at this time
abbrev pub IsDismissal : Kind → List ℕ → ℕ → Change → Type 0
IsDismissal kind kid time c = c ≡ Dismiss time (Listed kind kid)

-- Unknown exactly where it was never listed, and Already exactly where it was dismissed
abbrev pub IsDismissed : History → Option Change → Kind → List ℕ → ℕ → Listing → History → Option Change → Type 0
IsDismissed h d kind kid time (listing.Done place) g e = CanDismiss h kind kid × IsAdded h d (Dismiss time (Listed kind kid)) added.Done g e × (place ≡ length g)
IsDismissed h d kind kid time (listing.InUse index) g e = ⊥
IsDismissed h d kind kid time listing.Unknown g e = (is_listed h kind kid ≡ false) × IsSame h d g e
IsDismissed h d kind kid time listing.Already g e = IsTrue (is_listed h kind kid) × IsTrue (is_dismissed h kind kid) × IsSame h d g e
IsDismissed h d kind kid time listing.Full g e = CanDismiss h kind kid × IsAdded h d (Dismiss time (Listed kind kid)) added.Full g e
IsDismissed h d kind kid time listing.DiskFault g e = CanDismiss h kind kid × IsAdded h d (Dismiss time (Listed kind kid)) added.DiskFault g e
IsDismissed h d kind kid time listing.NoMemory g e = IsSame h d g e
