-- The certificates that an authority has of its own keys (RFC 5280, 4.1; RFC 9802, 5), signed by its issuing key.
use Rattle.std.specs.Prelude.{ℕ, List}
use Rattle.hss_sig.specs.OneLevel.{hss_signature}
use Rattle.lms_tree.specs.Keys.{Secret}
use Rattle.deal_changes.specs.declared.change.Settings.{Settings}
use Rattle.deal_table.specs.History.{brief_of}
use Rattle.cert_maker.specs.Certificates.{root_certificate, reply_certificate}

-- its own, from the time of the settings on, by leaf 0
unfoldable pub root_of : Secret → Settings → List ℕ
root_of issue s = root_certificate (hss_signature issue) (brief_of s) s.time

-- that of the key that signs replies, by leaf 1
unfoldable pub reply_of : Secret → Settings → List ℕ
reply_of issue s = reply_certificate (hss_signature issue) (brief_of s) s.time
