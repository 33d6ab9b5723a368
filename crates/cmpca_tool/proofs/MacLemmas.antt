-- The verdict on a MAC, by what the protection is over.
use Rattle.std.proofs.Common.{◌≡◌, ℕ, Bool, true, false, cond, List, refl, sym, ap, ◌∙◌}
use Rattle.std.specs.Str.{bytes_eq}
use Rattle.std.proofs.lemmas.Slice.Eq.{bytes_eq-Decides}
use Rattle.pbmac.specs.Mac.{mac_of}
use Rattle.pbmac.specs.declared.params.MacParams.{MacParams}
use Rattle.cmpca_tool.specs.declared.verdict.Verdict.TheVariants.{Verified, WrongMac}

not_true : (b : Bool) → (b ≡ true → ⊥) → b ≡ false
not_true true h = absurd (h refl)
not_true false h = refl

-- a MAC that holds, and one that does not, over a text that is what is protected
pub right_mac : (secret : List ℕ) (params : MacParams) (text protected mac : List ℕ) → text ≡ protected → mac ≡ mac_of secret params text → Verified ≡ cond (bytes_eq mac (mac_of secret params protected)) Verified WrongMac
right_mac secret params text protected mac t h =
    let e : mac ≡ mac_of secret params protected = h ∙ ap (mac_of secret params) t in
    let test : bytes_eq mac (mac_of secret params protected) ≡ true = (bytes_eq-Decides mac (mac_of secret params protected)).1 e in
    rw test refl

pub wrong_mac : (secret : List ℕ) (params : MacParams) (text protected mac : List ℕ) → text ≡ protected → (mac ≡ mac_of secret params text → ⊥) → WrongMac ≡ cond (bytes_eq mac (mac_of secret params protected)) Verified WrongMac
wrong_mac secret params text protected mac t h =
    let test : bytes_eq mac (mac_of secret params protected) ≡ false = not_true _ (λ b. h ((bytes_eq-Decides mac (mac_of secret params protected)).0 b ∙ ap (mac_of secret params) (sym t))) in
    rw test refl

pub no_bool : (b : Bool) → b ≡ false → b ≡ true → ⊥
no_bool b f t = cc
