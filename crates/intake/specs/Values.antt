-- What values of DER stand for, as far as a decision compares them.
use Rattle.std.specs.Prelude.{ℕ, ◌^◌, ◌&&◌, Bool, nat_le, nat_lt, is_none, if◌then◌else◌, List, [], ◌∷◌, length, slice_index, Option, Some, None}
use Rattle.std.specs.Str.{bytes_eq}
use Rattle.der_base.specs.Reading.{big_endian}
use Rattle.asn_types.specs.Algorithm.{Algorithm}
use Rattle.asn_types.specs.Oids.{dotted}
use Rattle.deal_model.specs.Keys.{hss_oid}
use Rattle.pbmac.specs.Params.{is_blank}
use Rattle.deal_table.specs.Message.{RequestId, Zero, MinusOne, OtherId}

-- octets, where there are at least and at most so many
abbrev pub sized : ℕ → ℕ → Option (List ℕ) → Option (List ℕ)
sized least most None = None
sized least most (Some octets) = if nat_le least (length octets) && nat_le (length octets) most then Some octets else None

-- the number that an INTEGER's content stands for, where it is at least 0 and below 2 ^ 64 (X.690, 8.3)
unfoldable pub number_in : List ℕ → Option ℕ
number_in content = if nat_lt (slice_index content 0) 128 && nat_lt (big_endian content) (2 ^ 64) then Some (big_endian content) else None

-- a version, which has one octet; no other one is served, and 0 stands for it
abbrev pub version_of : List ℕ → ℕ
version_of [] = 0
version_of (n ∷ []) = n
version_of (n ∷ more ∷ others) = 0

-- a certReqId by the content of its INTEGER: 0, -1 or another number (RFC 9810, 5.3.4)
abbrev pub id_of : List ℕ → RequestId
id_of content = if bytes_eq content (0 ∷ []) then Zero else (if bytes_eq content (255 ∷ []) then MinusOne else OtherId)

abbrev pub is_zero : List ℕ → Bool
is_zero content = bytes_eq content (0 ∷ [])

-- the algorithm is HSS/LMS, with parameters or without them (RFC 9708, 4)
abbrev pub is_hss : Algorithm → Bool
is_hss a = bytes_eq a.oid hss_oid

abbrev pub is_plain_hss : Algorithm → Bool
is_plain_hss a = is_hss a && is_none a.params

-- id-sha256, 2.16.840.1.101.3.4.2.1, with the parameters NULL or none (RFC 5754, 2)
abbrev pub is_sha256 : Algorithm → Bool
is_sha256 a = bytes_eq a.oid (dotted (2 ∷ 16 ∷ 840 ∷ 1 ∷ 101 ∷ 3 ∷ 4 ∷ 2 ∷ 1 ∷ [])) && is_blank a.params
