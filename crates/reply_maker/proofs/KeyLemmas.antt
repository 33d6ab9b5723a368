-- The trees of a key file are its keys.
use Rattle.std.specs.Prelude.{ℕ, ◌≡◌, ◌≢◌, List, false, Option, Err, IfSome, refl}
use Rattle.std.proofs.Common.{sym, ◌∙◌, ap, subst}
use Rattle.lms_tree.specs.Keys.{Secret}
use Rattle.hss_sig.specs.OneLevel.{hss_key}
use Rattle.deal_changes.specs.declared.change.Settings.{Settings}
use Rattle.reply_maker.specs.KeyFile.{IsKeyFile}
use Rattle.reply_maker.specs.declared.key_file.KeyFile.{KeyFile}
use Rattle.reply_maker.specs.declared.key_file.KeyFault.{KeyFault}
use Rattle.reply_maker.specs.declared.key_file.KeyFault.TheVariants.{KeyMismatch}
use Rattle.reply_maker.specs.declared.certificates.OwnCertificates.{OwnCertificates}
use Rattle.reply_maker.specs.Parts.{HasParts, joined}
use Rattle.reply_maker.specs.Keys.{AreUsable, AreShort, issue_secret, reply_secret, identity_in, identity_of, known_identity, are_blank, Agrees, certificates_of, file_of, AreKept, Loaded, Gives}
use Rattle.reply_maker.proofs.FileLemmas.{joined_parts}

-- the trees of a key file
pub record AreGrown (k : KeyFile) (s : Settings) (issue reply : Secret) : Type 0 where
  pub parts : HasParts (joined k) k
  pub issue_is : issue ≡ issue_secret (joined k) s
  pub reply_is : reply ≡ reply_secret (joined k) s

pub file_is : (k : KeyFile) (s : Settings) (issue reply : Secret) → AreGrown k s issue reply → file_of issue reply ≡ joined k
unfolding issue_secret reply_secret
file_is k s issue reply g =
    ap (λ (i : Secret). file_of i reply) g.issue_is
    ∙ ap (λ (r : Secret). file_of (issue_secret (joined k) s) r) g.reply_is
    ∙ joined_parts (joined k) g.parts.form.size

pub told_is : (k : KeyFile) (s : Settings) (issue reply : Secret) → AreGrown k s issue reply
    → identity_in (hss_key issue) (hss_key reply) ≡ identity_of (joined k) s
unfolding identity_of
told_is k s issue reply g =
    ap (λ (i : Secret). identity_in (hss_key i) (hss_key reply)) g.issue_is
    ∙ ap (λ (r : Secret). identity_in (hss_key (issue_secret (joined k) s)) (hss_key r)) g.reply_is

pub agrees : (k : KeyFile) (s : Settings) (issue reply : Secret) → AreGrown k s issue reply
    → (are_blank s ≡ false → identity_in (hss_key issue) (hss_key reply) ≡ known_identity s) → Agrees (joined k) s
agrees k s issue reply g same filled = sym (told_is k s issue reply g) ∙ same filled

kept_with : (k : KeyFile) (s : Settings) (issue reply : Secret) (own : Option OwnCertificates) → AreGrown k s issue reply → AreUsable s → Agrees (joined k) s
    → own ≡ certificates_of issue s → IfSome own AreShort → AreKept issue reply own s
kept_with k s issue reply own g usable same made short =
    let is : joined k ≡ file_of issue reply = sym (file_is k s issue reply g) in
    record {
      file = subst (λ (f : List ℕ). IsKeyFile f) is g.parts.form;
      usable = usable;
      issue_is = g.issue_is ∙ ap (λ (f : List ℕ). issue_secret f s) is;
      reply_is = g.reply_is ∙ ap (λ (f : List ℕ). reply_secret f s) is;
      agrees = subst (λ (f : List ℕ). Agrees f s) is same;
      own = made;
      short = short;
    }

-- .. with a copy of the settings
pub kept : (k : KeyFile) (s copy : Settings) (issue reply : Secret) (own : Option OwnCertificates) → AreGrown k s issue reply → AreUsable s → Agrees (joined k) s
    → own ≡ certificates_of issue s → IfSome own AreShort → copy ≡ s → AreKept issue reply own copy
kept k s copy issue reply own g usable same made short is =
    subst (λ (c : Settings). AreKept issue reply own c) (sym is) (kept_with k s issue reply own g usable same made short)

abbrev loaded : List ℕ → Settings → Loaded
loaded file s = record { file = file; settings = s }

pub loaded_is : (k : KeyFile) (s copy : Settings) (issue reply : Secret) → AreGrown k s issue reply → copy ≡ s
    → loaded (file_of issue reply) copy ≡ loaded (joined k) s
loaded_is k s copy issue reply g is =
    ap (λ (f : List ℕ). loaded f copy) (file_is k s issue reply g) ∙ ap (λ (c : Settings). loaded (joined k) c) is

-- another's file is told
pub differs : (k : KeyFile) (s : Settings) (issue reply : Secret) (fault : KeyFault) → AreGrown k s issue reply → are_blank s ≡ false
    → identity_in (hss_key issue) (hss_key reply) ≢ known_identity s
    → fault ≡ KeyMismatch (identity_in (hss_key issue) (hss_key reply)) (known_identity s) → Gives (joined k) s (Err fault)
differs k s issue reply fault g filled other is =
    subst (λ (f : KeyFault). Gives (joined k) s (Err f)) (sym is) (g.parts.form, filled, told_is k s issue reply g, refl, other)
