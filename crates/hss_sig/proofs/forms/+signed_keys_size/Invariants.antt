-- Each call is about one key fewer.
use Rattle.hss_sig.proofs.forms.+signed_keys_size.Given as goal

abbrev pub decreases-signed_keys_size : goal.decreases-signed_keys_size
decreases-signed_keys_size l = l.count
