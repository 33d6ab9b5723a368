-- Reading credentials one after the other, as a loop does.
use Rattle.std.proofs.Common.{◌≡◌, ℕ, suc, ◌-◌, ◌+◌, ◌≤◌, ◌<◌, List, [], ◌∷◌, ◌++◌, Some, None, refl, sym, ap, ◌∙◌, append_assoc, arith}
use Rattle.std.proofs.lemmas.List.{append-nil}
use Rattle.deal_changes.specs.declared.change.Credential.{Credential}
use Rattle.deal_changes.specs.declared.fault.ChangeFault.{ChangeFault}
use Rattle.deal_changes.specs.declared.fault.ChangeFault.TheVariants.{BadChange, NoMemory}
use Rattle.deal_changes.specs.Reading.{Read, ◌>>=◌, Fails, credential_at, credentials_at}

-- what was read before, and what is still read
abbrev pub with_front : List Credential → Read (List Credential) → Read (List Credential)
with_front front read = read >>= λ x. Some (front ++ x.0, x.1)

regroup : (front : List Credential) (n : Credential) (read : Read (List Credential)) → with_front front (read >>= λ x. Some (n ∷ x.0, x.1)) ≡ with_front (front ++ n ∷ []) read
regroup front n (Some x) = ap (λ (ns : List Credential). Some (ns, x.1)) (simp append_assoc)
regroup front n None = refl

pub goes_on : (front : List Credential) (count i : ℕ) (bytes : List ℕ) (n : Credential) (after : List ℕ) (total : Read (List Credential)) → i < count → credential_at bytes ≡ Some (n, after)
    → with_front front (credentials_at (count - i) bytes) ≡ total → with_front (front ++ n ∷ []) (credentials_at (count - (i + 1)) after) ≡ total
unfolding credentials_at
goes_on front count i bytes n after total lt h so_far =
    let k : count - i ≡ suc (count - (i + 1)) = omega arith in
    let one : with_front front (credentials_at (count - i) bytes) ≡ with_front (front ++ n ∷ []) (credentials_at (count - (i + 1)) after) = rw (k, h) (regroup front n (credentials_at (count - (i + 1)) after)) in
    sym one ∙ so_far

pub ends : (e : ChangeFault) (front : List Credential) (count i : ℕ) (bytes : List ℕ) (total : Read (List Credential)) → i < count → Fails e (credential_at bytes)
    → with_front front (credentials_at (count - i) bytes) ≡ total → Fails e total
unfolding credentials_at
ends NoMemory front count i bytes total lt h so_far = tt
ends BadChange front count i bytes total lt h so_far =
    let k : count - i ≡ suc (count - (i + 1)) = omega arith in
    let one : with_front front (credentials_at (count - i) bytes) ≡ None = rw (k, h) refl in
    sym so_far ∙ one

pub is_done : (front : List Credential) (count i : ℕ) (bytes : List ℕ) (total : Read (List Credential)) → count ≤ i → with_front front (credentials_at (count - i) bytes) ≡ total → total ≡ Some (front, bytes)
unfolding credentials_at
is_done front count i bytes total le so_far =
    let k : count - i ≡ 0 = omega arith in
    let one : with_front front (credentials_at (count - i) bytes) ≡ Some (front, bytes) = rw k (ap (λ (ns : List Credential). Some (ns, bytes)) (append-nil front)) in
    sym so_far ∙ one
