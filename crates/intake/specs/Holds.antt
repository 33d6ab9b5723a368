-- When the protection of a message verifies (RFC 9810, 5.1.3), and when a request proves that its sender has the private key (RFC
-- 4211, 4.1, and RFC 2986, 4.2).
use Rattle.std.specs.Prelude.{◌≡◌, ℕ, List, Option, Some, None}
use Rattle.asn_types.specs.Key.{Key}
use Rattle.hss_sig.specs.Hss.{HssOk}
use Rattle.req_forms.specs.Possession.{PopoForm, no_popo, by_ra, signed, another}
use Rattle.req_forms.specs.Requests.{ReqForm}
use Rattle.pki_message.specs.Body as forms
use Rattle.pki_message.specs.Body.{BodyForm}
use Rattle.pki_message.specs.Message.{MessageForm}
use Rattle.deal_changes.specs.declared.change.Kind.{Kind}
use Rattle.deal_changes.specs.declared.change.Kind.TheVariants.{Mac, Lms}
use Rattle.protect.specs.Holds.{ProtectionHolds}
use Rattle.protect.specs.declared.key.Key as protection
use Rattle.protect.specs.declared.key.Key.TheVariants as keys
use Rattle.intake.specs.Headers.{kind_of}

-- the secret or public key that a protection of this kind is checked under
abbrev pub key_by : Kind → List ℕ → protection.Key
key_by Mac key = keys.Mac key
key_by Lms key = keys.Lms key

abbrev pub VerifiesAs : Option Kind → MessageForm → List ℕ → Type 0
VerifiesAs (Some kind) m key = ProtectionHolds (key_by kind key) m
VerifiesAs None m key = ⊥

-- The protection of a message verifies under a secret or public key, by the kind of its algorithm.
abbrev pub Verifies : MessageForm → List ℕ → Type 0
Verifies m key = VerifiesAs (kind_of m.head.alg) m key

-- A signature without poposkInput over the CertRequest as it stands verifies under the key that is asked for (RFC 4211, 4.1).
abbrev pub Proves : Option Key → List ℕ → PopoForm → Type 0
Proves (Some k) request (signed s) = (s.input ≡ None) × HssOk k.key request s.sig
Proves (Some k) request no_popo = ⊥
Proves (Some k) request by_ra = ⊥
Proves (Some k) request (another n) = ⊥
Proves None request popo = ⊥

abbrev pub ProvesFirst : Option ReqForm → Type 0
ProvesFirst None = ⊥
ProvesFirst (Some r) = Proves r.template.key r.request r.popo

-- The first request of a body proves that its sender has the private key. One in the form of PKCS #10 is signed over its info as
-- it stands.
abbrev pub IsProven : BodyForm → Type 0
IsProven (forms.ir list) = ProvesFirst list.first
IsProven (forms.cr list) = ProvesFirst list.first
IsProven (forms.kur list) = ProvesFirst list.first
IsProven (forms.p10cr p) = HssOk p.inside.key.key p.info p.sig
IsProven _ = ⊥
