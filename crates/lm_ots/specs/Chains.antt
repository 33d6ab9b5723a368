-- The hashes of LM-OTS and LMS, and the chains of LM-OTS (RFC 8554, 4.3 and appendix A). H is SHA-256.
use Rattle.std.specs.Prelude.{ℕ, zero, suc, ◌+◌, ◌-◌, ◌^◌, List, [], ◌∷◌, ◌++◌}
use Rattle.std.specs.Int.{w16, w32, to_be_bytes}
use Rattle.sha2.specs.Sha256.{sha256}
use Rattle.lms_params.specs.Parameters.{OtsRow}

-- f 0 || f 1 || .. || f (n - 1)
unfoldable pub joined : (ℕ → List ℕ) → ℕ → List ℕ
joined f zero = []
joined f (suc n) = joined f n ++ f n

-- I || u32str(n) || u16str(kind): how every message that is hashed begins (RFC 8554, 7.1)
unfoldable pub prefix : List ℕ → ℕ → ℕ → List ℕ
prefix id n kind = id ++ to_be_bytes w32 n ++ to_be_bytes w16 kind

-- H(I || u32str(n) || u16str(kind) || rest)
abbrev pub tagged : List ℕ → ℕ → ℕ → List ℕ → List ℕ
tagged id n kind rest = sha256 (prefix id n kind ++ rest)

-- one step of chain i: H(I || u32str(q) || u16str(i) || u8str(j) || x) (RFC 8554, 4.3)
unfoldable pub step : List ℕ → ℕ → ℕ → ℕ → List ℕ → List ℕ
step id q i j x = tagged id q i (j ∷ x)

-- n steps of chain i, the first of which is step j
unfoldable pub steps : List ℕ → ℕ → ℕ → ℕ → ℕ → List ℕ → List ℕ
steps id q i j zero x = x
steps id q i j (suc n) x = steps id q i (j + 1) n (step id q i j x)

-- chain i from place a to place b: steps a, a + 1, .., b - 1 (RFC 8554, 4.3, 4.5 and 4.6)
abbrev pub chain : List ℕ → ℕ → ℕ → ℕ → ℕ → List ℕ → List ℕ
chain id q i a b x = steps id q i a (b - a) x

-- x[i], the private value of chain i: H(I || u32str(q) || u16str(i) || u8str(0xff) || SEED) (RFC 8554, appendix A)
abbrev pub secret : List ℕ → List ℕ → ℕ → ℕ → List ℕ
secret seed id q i = step id q i 0xff seed

-- H(I || u32str(q) || u16str(D_PBLC) || ends), where ends are the chains' values at their ends (RFC 8554, 4.3)
unfoldable pub ends_hash : List ℕ → ℕ → List ℕ → List ℕ
ends_hash id q ends = tagged id q 0x8080 ends

-- the end of chain i of the private key (RFC 8554, 4.3)
unfoldable pub chain_end : OtsRow → List ℕ → List ℕ → ℕ → ℕ → List ℕ
chain_end row seed id q i = chain id q i 0 (2 ^ row.w - 1) (secret seed id q i)

-- K, the public hash of one-time key q: the hash of the ends of all chains (RFC 8554, 4.3)
unfoldable pub ots_key : OtsRow → List ℕ → List ℕ → ℕ → List ℕ
ots_key row seed id q = ends_hash id q (joined (chain_end row seed id q) row.p)
