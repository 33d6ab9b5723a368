-- The signatures of LM-OTS and the public hash that one leads to (RFC 8554, 4.5 and 4.6).
use Rattle.std.specs.Prelude.{ℕ, ◌≡◌, ◌+◌, ◌-◌, ◌*◌, ◌^◌, ◌<◌, List, ◌++◌, Bool, ◌==◌, ◌&&◌, Option, Some, None, if◌then◌else◌, length, take, drop, option_and_then}
use Rattle.std.specs.Int.{w32, to_be_bytes, from_be_bytes}
use Rattle.lms_params.specs.Parameters.{OtsRow, ots_row, ots_signature_size}
use Rattle.lms_params.specs.Digits.{coef_of, with_checksum}
use Rattle.lm_ots.specs.Chains.{joined, tagged, step, chain, secret, ends_hash, ots_key}

-- C of a signature, from the seed: H(I || u32str(q) || u16str(0xfffd) || u8str(0xff) || SEED), an
-- entry of the sequence of pseudorandom values at a place that is no chain's (RFC 8554, appendix A)
unfoldable pub randomizer : List ℕ → List ℕ → ℕ → List ℕ
randomizer seed id q = step id q 0xfffd 0xff seed

-- Q: H(I || u32str(q) || u16str(D_MESG) || C || message) (RFC 8554, 4.5)
unfoldable pub text_hash : List ℕ → ℕ → List ℕ → List ℕ → List ℕ
text_hash id q c text = tagged id q 0x8181 (c ++ text)

-- Q || Cksm(Q), the octets whose digits are signed (RFC 8554, 4.5)
unfoldable pub signed_octets : OtsRow → List ℕ → ℕ → List ℕ → List ℕ → List ℕ
signed_octets row id q c text = with_checksum (text_hash id q c text) row.w row.ls

-- y[i]: chain i of the private key at the place that digit i names (RFC 8554, 4.5)
unfoldable pub signed_value : OtsRow → List ℕ → List ℕ → ℕ → List ℕ → ℕ → List ℕ
signed_value row seed id q octets i = chain id q i 0 (coef_of octets i row.w) (secret seed id q i)

-- the signature of a text: u32str(type) || C || y[0] || .. || y[p - 1] (RFC 8554, 4.5)
unfoldable pub ots_signature : OtsRow → ℕ → List ℕ → List ℕ → ℕ → List ℕ → List ℕ
ots_signature row code seed id q text =
    let c = randomizer seed id q in
    to_be_bytes w32 code ++ c ++ joined (signed_value row seed id q (signed_octets row id q c text)) row.p

-- C and y[i] of a signature
abbrev pub c_of : List ℕ → List ℕ
c_of sig = take 32 (drop 4 sig)

abbrev pub y_of : List ℕ → ℕ → List ℕ
y_of sig i = take 32 (drop (36 + 32 * i) sig)

-- the signature has its row's length and this typecode (RFC 8554, 4.6, algorithm 4b, steps 1 and 2)
abbrev pub has_form : OtsRow → ℕ → List ℕ → Bool
has_form row code sig = length sig == ots_signature_size row && from_be_bytes w32 (take 4 sig) == code

-- z[i]: chain i from the place that digit i names to its end (RFC 8554, 4.6)
unfoldable pub recovered_end : OtsRow → List ℕ → ℕ → List ℕ → List ℕ → ℕ → List ℕ
recovered_end row id q octets sig i = chain id q i (coef_of octets i row.w) (2 ^ row.w - 1) (y_of sig i)

-- Kc, the candidate: the public hash that a signature of a text leads to (RFC 8554, 4.6)
unfoldable pub candidate_of : OtsRow → List ℕ → ℕ → List ℕ → List ℕ → List ℕ
candidate_of row id q text sig =
    ends_hash id q (joined (recovered_end row id q (signed_octets row id q (c_of sig) text) sig) row.p)

-- the candidate of a signature that has the form of its row
abbrev pub candidate_in : OtsRow → ℕ → List ℕ → ℕ → List ℕ → List ℕ → Option (List ℕ)
candidate_in row code id q text sig = if has_form row code sig then Some (candidate_of row id q text sig) else None

-- the candidate under a typecode, if the table has the code and the signature its form
abbrev pub candidate_if : ℕ → List ℕ → ℕ → List ℕ → List ℕ → Option (List ℕ)
candidate_if code id q text sig = option_and_then (λ row. candidate_in row code id q text sig) (ots_row code)

-- the signature of a text leads to the public hash of the key that made it, under every row
abbrev pub SignatureLeadsToKey : Type 0
SignatureLeadsToKey = (code : ℕ) (row : OtsRow) (seed id text : List ℕ) (q : ℕ) → code < 2 ^ 32 → ots_row code ≡ Some row
    → candidate_if code id q text (ots_signature row code seed id q text) ≡ Some (ots_key row seed id q)
