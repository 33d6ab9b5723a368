-- Which text each leaf of an authority's two keys signs, as its history tells.
use Rattle.std.specs.Prelude.{ℕ, List, [], ◌∷◌, ◌++◌, length, Option, Some, None}
use Rattle.pki_message.specs.Frame.{protected_part}
use Rattle.protect.specs.Algorithms.{hss_lms, algorithm_octets}
use Rattle.protect.specs.Written.{with_algorithm}
use Rattle.deal_changes.specs.declared.change.Stamp.{Stamp}
use Rattle.deal_changes.specs.declared.change.Change.{Change}
use Rattle.deal_changes.specs.declared.change.Change.TheVariants.{Found, Grant}
use Rattle.deal_changes.specs.Times.{stamp_of}
use Rattle.deal_model.specs.declared.states.Key.{Key}
use Rattle.deal_model.specs.declared.states.Key.TheVariants.{Issue, Reply}
use Rattle.deal_model.specs.Views.{History}
use Rattle.deal_table.specs.History.{Receipted, receipt_of}
use Rattle.cert_maker.specs.Certificates.{root_tbs, reply_tbs, tbs_of}
use Rattle.reply_maker.specs.Messages.{header_octets}
use Rattle.reply_maker.specs.Replies.{Replier, reply_header, reply_body}

-- a text that a leaf of a key signs for the change at a place
pub record SignedText : Type 0 where
  pub key : Key
  pub leaf : ℕ
  pub text : List ℕ
  pub place : ℕ

-- Of a certificate its signed part (RFC 5280, 4.1.1.3): the founding change gives the authority's own two, by the leaves 0 and 1
-- of the issuing key, and a Grant gives the one that it grants, by its own leaf.
abbrev pub certificate_texts : Replier → ℕ → Change → List SignedText
certificate_texts k place (Found s) =
    record { key = Issue; leaf = 0; text = root_tbs k.keys s.time; place = place }
    ∷ record { key = Issue; leaf = 1; text = reply_tbs k.keys s.time; place = place } ∷ []
certificate_texts k place (Grant s b w serial leaf) =
    record { key = Issue; leaf = leaf; text = tbs_of k.keys (Grant s b w serial leaf); place = place } ∷ []
certificate_texts k place _ = []

-- of a reply its protected part (RFC 9810, 5.1.3): the header, which names HSS/LMS, and the body
abbrev pub reply_part : Replier → Receipted → Stamp → List ℕ
reply_part k r s = protected_part (header_octets (with_algorithm (reply_header k.keys r.change s) (Some (algorithm_octets hss_lms)))) (reply_body k r r.change)

-- where a leaf of the key of the replies signs it
abbrev pub leaf_texts : Replier → Receipted → Stamp → Option ℕ → List SignedText
leaf_texts k r s (Some leaf) = record { key = Reply; leaf = leaf; text = reply_part k r s; place = r.place } ∷ []
leaf_texts k r s None = []

abbrev pub reply_texts : Replier → History → Change → Option Stamp → List SignedText
reply_texts k h c (Some s) = leaf_texts k (receipt_of h (length h) c s) s s.leaf
reply_texts k h c None = []

-- the texts of the last change of a history
abbrev pub last_texts : Replier → History → Change → List SignedText
last_texts k h c = certificate_texts k (length h) c ++ reply_texts k h c (stamp_of c)

-- the texts of the changes behind some
abbrev pub texts_behind : Replier → History → List Change → List SignedText
texts_behind k before [] = []
texts_behind k before (c ∷ cs) = last_texts k (before ++ c ∷ []) c ++ texts_behind k (before ++ c ∷ []) cs

-- the texts of a history, change by change
unfoldable pub texts_of : Replier → History → List SignedText
texts_of k h = texts_behind k [] h
