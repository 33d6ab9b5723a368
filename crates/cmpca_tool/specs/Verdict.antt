-- What the check of a frame's protection under a secret tells, as the program tests it: a working tool of the proofs. What a
-- verdict means stands in Causes.
use Rattle.std.specs.Prelude.{ℕ, List, Option, Some, None, if◌then◌else◌}
use Rattle.std.specs.Str.{bytes_eq}
use Rattle.asn_types.specs.Algorithm.{Algorithm}
use Rattle.pbmac.specs.Params.{params_at}
use Rattle.pbmac.specs.Mac.{mac_of}
use Rattle.pbmac.specs.declared.params.MacParams.{MacParams}
use Rattle.pki_message.specs.Frame.{FrameForm, protected_part}
use Rattle.cmpca_tool.specs.declared.verdict.Verdict.{Verdict}
use Rattle.cmpca_tool.specs.declared.verdict.Verdict.TheVariants.{Verified, Unprotected, BadAlg, WrongMac}

-- by the MAC of the protected part under the secret
abbrev pub verdict_of_mac : List ℕ → FrameForm → List ℕ → Option MacParams → Verdict
verdict_of_mac secret f mac None = BadAlg
verdict_of_mac secret f mac (Some p) = if bytes_eq mac (mac_of secret p (protected_part f.header_bytes f.body_bytes)) then Verified else WrongMac

-- by the protection and the algorithm that made it, which are both there or one is missing
abbrev pub verdict_of_protection : List ℕ → FrameForm → Option Algorithm → Option (List ℕ) → Verdict
verdict_of_protection secret f None mac = Unprotected
verdict_of_protection secret f (Some alg) None = Unprotected
verdict_of_protection secret f (Some alg) (Some mac) = verdict_of_mac secret f mac (params_at alg)

-- by the frame
abbrev pub verdict_of_frame : List ℕ → FrameForm → Verdict
verdict_of_frame secret f = verdict_of_protection secret f f.head.alg f.protection
