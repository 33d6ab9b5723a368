-- The reply of enlist, by what the file tells or why there is no list.
use Rattle.std.proofs.Common.{◌≡◌, inl, inr, ⊎_elim, ℕ, List, Option, None, Result, Ok, Err, refl, sym, subst}
use Rattle.std.specs.Prelude.{IfSome}
use Rattle.deal_changes.specs.declared.change.Credential.{Credential}
use Rattle.deal_changes.specs.declared.change.Change.{Change}
use Rattle.deal_model.specs.Views.{History}
use Rattle.registry.specs.declared.fault.RegFault.{RegFault}
use Rattle.registry.specs.declared.fault.RegFault.TheVariants as files
use Rattle.registry.specs.Credentials.{credentials_in}
use Rattle.desk.specs.Due.{event_time}
use Rattle.desk.specs.Images.{RecoversWith, MayCome}
use Rattle.desk.specs.Listings.{IsEnlisting}
use Rattle.cmpca_tool.specs.declared.file.Unread.{Unread}
use Rattle.cmpca_tool.specs.declared.file.Unread.TheVariants.{Bad}
use Rattle.cmpca_tool.specs.declared.file.Unread.TheVariants as unread
use Rattle.cmpca_tool.specs.declared.status.Status.{Status}
use Rattle.cmpca_tool.specs.Deeds.{IsFile, IsUnlisted, IsUnreadReply, Lists, ListsRead, Enlists, IsFileListed}
use Rattle.cmpca_tool.specs.Changes.{IsStep}
use Rattle.cmpca_tool.proofs.StepLemmas.{wider_step}
use Rattle.cmpca_tool.proofs.RunLemmas.{some_input, short_read, short_memory}

-- ---- a list was read

pub enlisted : (Failed : Type 0) (file : List ℕ) (list : List Credential) (now : ℕ) (h : History) (status : Status) (text : List ℕ) (g : History) (e : Option Change) → credentials_in file ≡ Ok list → Lists list (event_time h now) h status text g e → Enlists Failed file now h status text g e
enlisted Failed file list now h status text g e tells lists = inl (subst (λ (r : Result (List Credential) RegFault). ListsRead r (event_time h now) h status text g e) (sym tells) lists)

pub own_listed : (file : List ℕ) (list : List Credential) (now : ℕ) (h : History) (image : List ℕ) → credentials_in file ≡ Ok list → RecoversWith h (MayCome (IsEnlisting list (event_time h now)) h) image → RecoversWith h (MayCome (IsFileListed file now h) h) image
own_listed file list now h image tells left = ⊎_elim (λ was. inl was) (λ more. inr (more.0, (record { list = list; read = tells; lists = more.1.0 }, more.1.1), more.2)) left

pub step_listed : (file : List ℕ) (list : List Credential) (now : ℕ) (h g : History) (e : Option Change) → credentials_in file ≡ Ok list → IsStep (IsEnlisting list (event_time h now)) h g e → IsStep (IsFileListed file now h) h g e
step_listed file list now h g e tells step = wider_step (IsEnlisting list (event_time h now)) (IsFileListed file now h) h g e (λ c own. record { list = list; read = tells; lists = own }) step

-- ---- none was read

-- a file that the input may be, for which each such reply is right
pub record IsRead (Failed : Type 0) (left : Option (List ℕ)) (u : Unread) : Type 0 where
  pub file : List ℕ
  pub whole : IfSome left (λ all. all ≡ file)
  pub replies : (now : ℕ) (h : History) (status : Status) (text : List ℕ) (d : Option Change) → d ≡ None → IsUnreadReply u status text → Enlists Failed file now h status text h d

told_unlisted : (Failed : Type 0) (left : Option (List ℕ)) (fault : RegFault) → IsFile left (Err fault) → IsRead Failed left (Bad fault)
told_unlisted Failed left fault is = record {
  file = is.file;
  whole = is.whole;
  replies = λ now h status text d clear r. ⊎_elim
      (λ refused. inl (subst (λ (o : Result (List Credential) RegFault). ListsRead o (event_time h now) h status text h d) (sym is.tells) (refused.0, refused.1, (refl, clear))))
      (λ none. inr (short_memory Failed status text none.0 none.1, (refl, clear))) r;
}

pub read_of : (Failed : Type 0) (left : Option (List ℕ)) (u : Unread) → (u ≡ unread.ReadFault → Failed) → IsUnlisted left u → IsRead Failed left u
read_of Failed left unread.ReadFault failed is = let i = some_input left in
    record { file = i.0; whole = i.1; replies = λ now h status text d clear r. inr (short_read Failed status text (failed refl) r.0 r.1, (refl, clear)) }
read_of Failed left (Bad files.NoMemory) failed is = let i = some_input left in
    record { file = i.0; whole = i.1; replies = λ now h status text d clear r. ⊎_elim (λ said. inr (short_memory Failed status text said.0 said.1, (refl, clear))) (λ none. inr (short_memory Failed status text none.0 none.1, (refl, clear))) r }
read_of Failed left (Bad files.BadToml) failed is = told_unlisted Failed left files.BadToml (is (λ e. absurd (cc e)))
read_of Failed left (Bad files.BadCount) failed is = told_unlisted Failed left files.BadCount (is (λ e. absurd (cc e)))
read_of Failed left (Bad (files.BadCredential index cause)) failed is = told_unlisted Failed left (files.BadCredential index cause) (is (λ e. absurd (cc e)))
read_of Failed left (Bad (files.BadSetting key)) failed is = told_unlisted Failed left (files.BadSetting key) (is (λ e. absurd (cc e)))
