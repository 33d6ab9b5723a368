-- What each verdict means, by the spelling of a message (RFC 9810, 5.1), PBMAC1 (RFC 8018, 7.1; RFC 9481, 6.1.2) and its
-- MAC over the protected part (RFC 9810, 5.1.3). No reader is named.
use Rattle.std.specs.Prelude.{◌≡◌, ℕ, ◌⊎◌, List, Some, None}
use Rattle.asn_types.specs.Algorithm.{Algorithm}
use Rattle.pbmac.specs.Mac.{MacOk}
use Rattle.pbmac.specs.declared.params.MacParams.{MacParams}
use Rattle.pbmac_grammar.specs.Pbmac1.{IsPbmac1}
use Rattle.pki_message.specs.Frame.{FrameForm, IsFrame, protected_part}
use Rattle.cmpca_tool.specs.declared.verdict.Verdict.{Verdict}
use Rattle.cmpca_tool.specs.declared.verdict.Verdict.TheVariants.{Verified, BadDataFormat, Unprotected, BadAlg, WrongMac}

-- The octets are a message with this algorithm and this protection.
pub record IsProtected (input : List ℕ) (frame : FrameForm) (alg : Algorithm) (mac : List ℕ) : Type 0 where
  pub message : IsFrame input frame
  pub algorithm : frame.head.alg ≡ Some alg
  pub protection : frame.protection ≡ Some mac

-- They are a message whose algorithm is PBMAC1 with these parameters.
pub record IsMaced (input : List ℕ) (frame : FrameForm) (params : MacParams) (mac : List ℕ) : Type 0 where
  pub alg : Algorithm
  pub protected : IsProtected input frame alg mac
  pub pbmac1 : IsPbmac1 alg params.salt params.rounds

-- The MAC is that of the header and the body, as they stand, under the secret.
abbrev pub MacHolds : List ℕ → FrameForm → MacParams → List ℕ → Type 0
MacHolds secret frame params mac = MacOk secret params (protected_part frame.header_bytes frame.body_bytes) mac

-- refused badDataFormat: the octets are no message, or more than are read
pub record IsBadDataFormat (input : List ℕ) : Type 0 where
  pub no_frame : (frame : FrameForm) → IsFrame input frame → ⊥

-- refused badMessageCheck: the protection is missing, or the algorithm that made it
pub record IsUnprotected (input : List ℕ) : Type 0 where
  pub frame : FrameForm
  pub message : IsFrame input frame
  pub missing : (frame.head.alg ≡ None) ⊎ (frame.protection ≡ None)

-- refused badAlg: the algorithm is not PBMAC1 within its limits
pub record IsBadAlg (input : List ℕ) : Type 0 where
  pub frame : FrameForm
  pub alg : Algorithm
  pub mac : List ℕ
  pub protected : IsProtected input frame alg mac
  pub other : (salt : List ℕ) (rounds : ℕ) → IsPbmac1 alg salt rounds → ⊥

-- refused badMessageCheck: the MAC is another
pub record IsWrongMac (secret input : List ℕ) : Type 0 where
  pub frame : FrameForm
  pub params : MacParams
  pub mac : List ℕ
  pub maced : IsMaced input frame params mac
  pub differs : MacHolds secret frame params mac → ⊥

-- protection verified: the MAC holds
pub record IsVerified (secret input : List ℕ) : Type 0 where
  pub frame : FrameForm
  pub params : MacParams
  pub mac : List ℕ
  pub maced : IsMaced input frame params mac
  pub holds : MacHolds secret frame params mac

-- The verdict on a message under a secret has its cause.
abbrev pub IsVerdict : List ℕ → List ℕ → Verdict → Type 0
IsVerdict secret input Verified = IsVerified secret input
IsVerdict secret input BadDataFormat = IsBadDataFormat input
IsVerdict secret input Unprotected = IsUnprotected input
IsVerdict secret input BadAlg = IsBadAlg input
IsVerdict secret input WrongMac = IsWrongMac secret input

-- This verdict has its cause, and no other one has.
pub record IsSoleVerdict (secret input : List ℕ) (v : Verdict) : Type 0 where
  pub caused : IsVerdict secret input v
  pub sole : (other : Verdict) → IsVerdict secret input other → other ≡ v
