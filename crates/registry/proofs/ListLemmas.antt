-- The credentials of tables, one table after the other.
use Rattle.std.proofs.Common.{option_and_then, codes, ◌≡◌, ℕ, ◌+◌, ◌<◌, ◌≤◌, true, false, List, [], ◌∷◌, ◌++◌, length, get_or, drop, Option, Some, None, IsSome, IfSome, option_map, Result, Ok, Err, refl, sym, ap, ◌∙◌}
use Rattle.std.specs.List.{list_any, AllByRecursion}
use Rattle.std.specs.Cmp.Lexicographic.{nat_list_eq_equiv}
use Rattle.std.proofs.lemmas.Bool.{or_parts, false≢true}
use Rattle.std.proofs.lemmas.Option.{same_Some}
use Rattle.std.proofs.lemmas.List.{drop_all}
use Rattle.std.proofs.lemmas.List.Folds.{list_any-append}
use Rattle.deal_changes.specs.Bind.{◌>>=◌}
use Rattle.deal_changes.specs.declared.change.Kind.{Kind}
use Rattle.deal_changes.specs.declared.change.Kind.TheVariants.{Mac, Lms}
use Rattle.deal_changes.specs.declared.change.Credential.{Credential}
use Rattle.deal_model.specs.Views.{same_kind, is_entry}
use Rattle.deal_model.specs.Rules.{IsNamed, AreNew, stands}
use Rattle.toml.specs.Data.{Data, Members, item, as_table, get_member}
use Rattle.toml.specs.View.{view, items_view}
use Rattle.toml.specs.declared.value.Value.{Value}
use Rattle.toml.proofs.Views.{items_view-drop}
use Rattle.registry.specs.declared.fault.CredCause.{CredCause}
use Rattle.registry.specs.declared.fault.RegFault.{RegFault}
use Rattle.registry.specs.declared.fault.RegFault.TheVariants.{BadCount, BadCredential}
use Rattle.registry.specs.Forms.{of_kinds, IsAmong, data_of, tables_of, tables_in, has_only}
use Rattle.registry.specs.Files.{Gives}
use Rattle.registry.specs.declared.forms.Kinds.{Kinds}
use Rattle.registry.specs.declared.forms.Kinds.TheVariants.{MacOrLms, MacAlone}
use Rattle.registry.specs.Credentials.{next_of, behind, listed, credentials_of, macs_in, AreFit}

-- what is read of these items behind these credentials
abbrev pub read_behind : Kinds → List Credential → List Value → Option (Result (List Credential) RegFault)
read_behind kinds list items = option_map (behind kinds list) (tables_of (data_of (items_view items)))

front_ok : (kinds : Kinds) (list : List Credential) (t : Members) (more : Option (List Members)) (c : Credential) → next_of kinds list t ≡ Ok c
    → option_map (behind kinds list) (more >>= (λ ts. Some (t ∷ ts))) ≡ option_map (behind kinds (list ++ c ∷ [])) more
unfolding behind
front_ok kinds list t None c h = refl
front_ok kinds list t (Some ts) c h = rw h refl

front_err : (kinds : Kinds) (list : List Credential) (t : Members) (more : Option (List Members)) (f : CredCause) → next_of kinds list t ≡ Err f
    → IfSome (more >>= (λ ts. Some (t ∷ ts))) (λ ts. behind kinds list ts ≡ Err (BadCredential (length list) f))
unfolding behind
front_err kinds list t None f h = tt
front_err kinds list t (Some ts) f h = rw h refl

-- the items from here on are a value and those behind it
from_here : (items : List Value) (i : ℕ) (v : Value) → i < length items → v ≡ get_or items i v → items_view (drop i items) ≡ item (view v) (items_view (drop (i + 1) items))
from_here items i v h e = items_view-drop items i v h ∙ ap (λ w. item (view w) (items_view (drop (i + 1) items))) (sym e)

-- a table's credential goes behind those before it
pub goes_on : (kinds : Kinds) (list : List Credential) (items : List Value) (i : ℕ) (v : Value) (t : Members) (c : Credential) → i < length items → v ≡ get_or items i v
    → as_table (view v) ≡ Some t → next_of kinds list t ≡ Ok c → read_behind kinds list (drop i items) ≡ read_behind kinds (list ++ c ∷ []) (drop (i + 1) items)
goes_on kinds list items i v t c h e is ok = rw (from_here items i v h e, is) (front_ok kinds list t _ c ok)

carried : {A B C : Type 0} (o : Option A) (p : Option B) (f : A → C) (g : B → C) (r : C) → option_map f o ≡ option_map g p → IfSome o (λ x. f x ≡ r) → IfSome p (λ y. g y ≡ r)
carried None None f g r e h = tt
carried None (Some y) f g r e h = absurd (cc e)
carried (Some x) None f g r e h = absurd (cc e)
carried (Some x) (Some y) f g r e h = sym (same_Some (f x) (g y) e) ∙ h

-- a table's fault ends the reading
pub ends : (kinds : Kinds) (list : List Credential) (items : List Value) (i : ℕ) (v : Value) (t : Members) (f : CredCause) → i < length items → v ≡ get_or items i v
    → as_table (view v) ≡ Some t → next_of kinds list t ≡ Err f → read_behind kinds list (drop i items) ≡ read_behind kinds [] items
    → IfSome (tables_of (data_of (items_view items))) (λ tables. behind kinds [] tables ≡ Err (BadCredential (length list) f))
ends kinds list items i v t f h e is err read =
    carried (tables_of (data_of (items_view (drop i items)))) (tables_of (data_of (items_view items))) (behind kinds list) (behind kinds []) _ read
    (rw (from_here items i v h e, is) (front_err kinds list t _ f err))

-- behind the last table all are read
pub is_done : (kinds : Kinds) (list : List Credential) (items : List Value) (i : ℕ) → length items ≤ i → read_behind kinds list (drop i items) ≡ read_behind kinds [] items
    → IfSome (tables_of (data_of (items_view items))) (λ tables. behind kinds [] tables ≡ Ok list)
unfolding behind
is_done kinds list items i h read =
    let rest : drop i items ≡ [] = drop_all i items h in
    carried (Some []) (tables_of (data_of (items_view items))) (behind kinds list) (behind kinds []) (Ok list) (rw rest at read) refl

none_of : {A C : Type 0} (o : Option A) (g : A → C) (P : A → Type 0) → option_map g o ≡ None → IfSome o P
none_of None g P e = tt
none_of (Some x) g P e = absurd (cc e)

-- where no table stands nothing is read
pub is_none : (kinds : Kinds) (list : List Credential) (items : List Value) (i : ℕ) (v : Value) (P : List Members → Type 0) → i < length items → v ≡ get_or items i v
    → as_table (view v) ≡ None → read_behind kinds list (drop i items) ≡ read_behind kinds [] items → IfSome (tables_of (data_of (items_view items))) P
is_none kinds list items i v P h e is read = none_of (tables_of (data_of (items_view items))) (behind kinds []) P (sym read ∙ rw (from_here items i v h e, is) refl)

-- ---- credentials that may be listed together

same_kind-symm : (a b : Kind) → same_kind a b ≡ same_kind b a
same_kind-symm Mac Mac = refl
same_kind-symm Mac Lms = refl
same_kind-symm Lms Mac = refl
same_kind-symm Lms Lms = refl

same_entry : (c d : Credential) → is_entry c.kind c.kid d ≡ is_entry d.kind d.kid c
same_entry c d = rw (same_kind-symm d.kind c.kind, nat_list_eq_equiv.symm d.kid c.kid)

unlisted : (k : Kind) (id : List ℕ) → stands [] k id ≡ false
unlisted Mac id = refl
unlisted Lms id = refl

new_push : (cs : List Credential) (c : Credential) → AreNew [] cs → IsNamed c.kind c.kid c.material → list_any (is_entry c.kind c.kid) cs ≡ false → AreNew [] (cs ++ c ∷ [])
new_push [] c a n e = (n, unlisted c.kind c.kid, refl, tt)
new_push (d ∷ cs) c a n e =
    let (here, more) = or_parts (is_entry c.kind c.kid d) (list_any (is_entry c.kind c.kid) cs) e in
    (a.0, a.1, rw (list_any-append (is_entry d.kind d.kid) cs (c ∷ []), a.2, same_entry d c, here) refl, new_push cs c a.3 n more)

rights_push : (cs : List Credential) (c : Credential) → AllByRecursion (λ x. x.rights < 32) cs → c.rights < 32 → AllByRecursion (λ x. x.rights < 32) (cs ++ c ∷ [])
rights_push [] c a h = (h, tt)
rights_push (d ∷ cs) c a h = (a.0, rights_push cs c a.1 h)

pub fit_none : AreFit []
fit_none = record { rights = tt; new = tt }

pub fit_push : (cs : List Credential) (c : Credential) → AreFit cs → IsNamed c.kind c.kid c.material → c.rights < 32 → list_any (is_entry c.kind c.kid) cs ≡ false
    → AreFit (cs ++ c ∷ [])
fit_push cs c a n h e = record { rights = rights_push cs c a.rights h; new = new_push cs c a.new n e }

-- ---- the table of a file

pub listed_there : (t : Members) (d : Data) → has_only (codes "credential" ∷ []) t ≡ true → get_member (codes "credential") t ≡ Some d → listed t ≡ tables_in 1 256 d
unfolding listed
listed_there t d h e = rw (h, e) refl

pub listed_not : (t : Members) → has_only (codes "credential" ∷ []) t ≡ false → listed t ≡ None
unfolding listed
listed_not t h = rw h refl

pub some_read : {X : Type 0} (view : X → List Credential) (r : Result X RegFault) (t : Members) (o : Option (List Members)) → o ≡ listed t → IsSome o
    → IfSome o (λ tables. Gives view r (behind MacOrLms [] tables)) → Gives view r (credentials_of t)
unfolding credentials_of
some_read view r t None e s h = absurd (false≢true s)
some_read view r t (Some tables) e s h = rw (← e) h

pub none_read : (t : Members) → None ≡ listed t → credentials_of t ≡ Err BadCount
unfolding credentials_of
none_read t e = rw (← e) refl

-- ---- credentials of kind mac alone

abbrev array_of : Members → Option (List Members)
array_of t = option_and_then (tables_in 1 256) (get_member (codes "credential") t)

pub some_macs : {X : Type 0} (view : X → List Credential) (r : Result X RegFault) (t : Members) (o : Option (List Members)) → o ≡ array_of t → IsSome o
    → IfSome o (λ tables. Gives view r (behind MacAlone [] tables)) → Gives view r (macs_in t)
unfolding macs_in
some_macs view r t None e s h = absurd (false≢true s)
some_macs view r t (Some tables) e s h = rw (← e) h

pub none_macs : (t : Members) → None ≡ array_of t → macs_in t ≡ Err BadCount
unfolding macs_in
none_macs t e = rw (← e) refl

-- ---- credentials of these kinds

pub among_push : (kinds : Kinds) (cs : List Credential) (c : Credential) → AllByRecursion (λ x. IsAmong kinds x.kind) cs → IsAmong kinds c.kind → AllByRecursion (λ x. IsAmong kinds x.kind) (cs ++ c ∷ [])
among_push kinds [] c a h = (h, tt)
among_push kinds (d ∷ cs) c a h = (a.0, among_push kinds cs c a.1 h)

mac_alone : (k : Kind) → of_kinds MacAlone k ≡ Some k → k ≡ Mac
mac_alone Mac e = refl
mac_alone Lms e = absurd (let f : None ≡ Some Lms = e in cc)

pub all_macs : (cs : List Credential) → AllByRecursion (λ c. IsAmong MacAlone c.kind) cs → AllByRecursion (λ c. c.kind ≡ Mac) cs
all_macs [] a = tt
all_macs (c ∷ cs) a = (mac_alone c.kind a.0, all_macs cs a.1)

-- a kind that is told is one of these
pub told_among : (kinds : Kinds) (o : Option Kind) (kind : Kind) → (o >>= of_kinds kinds) ≡ Some kind → of_kinds kinds kind ≡ Some kind
told_among kinds None kind e = absurd (let f : None ≡ Some kind = e in cc)
told_among MacOrLms (Some k) kind e = refl
told_among MacAlone (Some Mac) kind e = ap (of_kinds MacAlone) (sym (same_Some Mac kind e)) ∙ e
told_among MacAlone (Some Lms) kind e = absurd (let f : None ≡ Some kind = e in cc)
