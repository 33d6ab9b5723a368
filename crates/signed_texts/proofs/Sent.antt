-- What is sent is signed by the leaves of the history's texts.
use Rattle.std.proofs.Common.{◌≡◌, ℕ, suc, true, List, [], ◌∷◌, length, take, Some, refl, sym, ap, subst, ◌∙◌, arith}
use Rattle.std.specs.Prelude.{slice_get}
use Rattle.std.proofs.lemmas.List.{length-take-le}
use Rattle.std.proofs.lemmas.Option.{same_Some, slice_get_within}
use Rattle.protect.specs.Algorithms.{hss_lms, algorithm_octets}
use Rattle.protect.specs.Written.{with_algorithm}
use Rattle.deal_changes.specs.declared.change.Stamp.{Stamp}
use Rattle.deal_changes.specs.declared.change.Change.{Change}
use Rattle.deal_changes.specs.declared.change.Change.TheVariants.{Found, Enlist, Dismiss, Grant, Hold, Release, Deny, Turned, Polled, Settled, Revoke, Lapse}
use Rattle.deal_changes.specs.Times.{stamp_of}
use Rattle.deal_model.specs.declared.states.Key.TheVariants.{Issue, Reply}
use Rattle.deal_model.specs.Views.{History, is_found}
use Rattle.deal_model.specs.Rules.{Legal}
use Rattle.deal_table.specs.History.{Receipted, receipt_of}
use Rattle.cert_maker.specs.Certificates.{root_tbs, reply_tbs, tbs_of, cert_of, IsGrant}
use Rattle.reply_maker.specs.Certificates as own
use Rattle.reply_maker.specs.Messages.{header_octets, planned_message}
use Rattle.reply_maker.specs.Replies.{Replier, replier_of, reply_header, reply_body, reply_of}
use Rattle.reply_maker.proofs.InForceLemmas.{made}
use Rattle.signed_texts.specs.Texts.{SignedText, reply_part, certificate_texts, reply_texts, last_texts, texts_of}
use Rattle.signed_texts.specs.Laws.{Stands, authority, IsSignedCertificate, IsSignedReply, OwnAreSigned, GrantedAreSigned, RepliesAreSigned}
use Rattle.signed_texts.proofs.Lists.{stands_right}
use Rattle.signed_texts.proofs.Texts.{text_stands}

-- ---- the authority's own certificates

founded_signed : (file : List ℕ) (c : Change) (h : History) → is_found c ≡ true → OwnAreSigned file (c ∷ h)
unfolding texts_of replier_of own.root_of own.reply_of
founded_signed file (Found s) h is = (
  record { entry = record { key = Issue; leaf = 0; text = root_tbs (authority file (Found s ∷ h)).keys s.time; place = 1 }; stands = (0, refl); issued = refl; there = refl; whole = refl },
  record { entry = record { key = Issue; leaf = 1; text = reply_tbs (authority file (Found s ∷ h)).keys s.time; place = 1 }; stands = (1, refl); issued = refl; there = refl; whole = refl },
)
founded_signed file (Enlist time list) h is = absurd (cc is)
founded_signed file (Dismiss time w) h is = absurd (cc is)
founded_signed file (Grant s b w serial leaf) h is = absurd (cc is)
founded_signed file (Hold s b w) h is = absurd (cc is)
founded_signed file (Release time tid) h is = absurd (cc is)
founded_signed file (Deny time tid) h is = absurd (cc is)
founded_signed file (Turned s) h is = absurd (cc is)
founded_signed file (Polled s) h is = absurd (cc is)
founded_signed file (Settled s accepted) h is = absurd (cc is)
founded_signed file (Revoke s serial reason) h is = absurd (cc is)
founded_signed file (Lapse time tid) h is = absurd (cc is)

pub own_signed : (file : List ℕ) (h : History) → Legal h → OwnAreSigned file h
own_signed file [] l = absurd (l.0 refl)
own_signed file (c ∷ h) l = founded_signed file c h l.1.0.opening

-- ---- what stands at a place

front_long : (h : History) (i : ℕ) (c : Change) → slice_get h i ≡ Some c → length (take (suc i) h) ≡ suc i
front_long h i c there = length-take-le (suc i) h (omega (arith, slice_get_within h i c there))

in_history : (k : Replier) (h : History) (i : ℕ) (c : Change) (e : SignedText) → slice_get h i ≡ Some c → Stands e (last_texts k (take (suc i) h) c) → Stands e (texts_of k h)
unfolding texts_of
in_history k h i c e there s = text_stands k [] h i c e there s

-- ---- granted certificates

grant_signed : (file : List ℕ) (h : History) (i : ℕ) (c : Change) → slice_get h i ≡ Some c → IsGrant c → IsSignedCertificate file h (suc i) (cert_of (authority file h).issues (authority file h).keys c)
unfolding replier_of
grant_signed file h i (Grant s b w serial leaf) there grant =
    let k : Replier = authority file h in
    let e : SignedText = record { key = Issue; leaf = leaf; text = tbs_of k.keys (Grant s b w serial leaf); place = length (take (suc i) h) } in
    record { entry = e; stands = in_history k h i (Grant s b w serial leaf) e there (0, refl); issued = refl; there = front_long h i (Grant s b w serial leaf) there; whole = refl }
grant_signed file h i (Found s) there grant = absurd grant
grant_signed file h i (Enlist time list) there grant = absurd grant
grant_signed file h i (Dismiss time w) there grant = absurd grant
grant_signed file h i (Hold s b w) there grant = absurd grant
grant_signed file h i (Release time tid) there grant = absurd grant
grant_signed file h i (Deny time tid) there grant = absurd grant
grant_signed file h i (Turned s) there grant = absurd grant
grant_signed file h i (Polled s) there grant = absurd grant
grant_signed file h i (Settled s accepted) there grant = absurd grant
grant_signed file h i (Revoke s serial reason) there grant = absurd grant
grant_signed file h i (Lapse time tid) there grant = absurd grant

pub granted_signed : (file : List ℕ) (h : History) → GrantedAreSigned file h
granted_signed file h n r e grant =
    let m = made h n r e in
    let change : r.change ≡ m.2.change = ap (λ (x : Receipted). x.change) m.2.is in
    subst (λ (x : Change). IsSignedCertificate file h n (cert_of (authority file h).issues (authority file h).keys x)) (sym change)
    (subst (λ (p : ℕ). IsSignedCertificate file h p (cert_of (authority file h).issues (authority file h).keys m.2.change)) (sym m.1)
    (grant_signed file h m.0 m.2.change m.2.stands (subst IsGrant change grant)))

-- ---- replies

part_stands : (k : Replier) (h : History) (c : Change) (s : Stamp) (leaf : ℕ) → stamp_of c ≡ Some s → s.leaf ≡ Some leaf → Stands (record { key = Reply; leaf = leaf; text = reply_part k (receipt_of h (length h) c s) s; place = length h }) (last_texts k h c)
part_stands k h c s leaf has by = stands_right _ (certificate_texts k (length h) c) (reply_texts k h c (stamp_of c)) (rw (has, by) (0, refl))

reply_signed : (file : List ℕ) (h : History) (r : Receipted) (s : Stamp) (leaf place : ℕ) → stamp_of r.change ≡ Some s → s.leaf ≡ Some leaf → Stands (record { key = Reply; leaf = leaf; text = reply_part (authority file h) r s; place = place }) (texts_of (authority file h) h) → IsSignedReply file h place (reply_of (authority file h) r)
unfolding replier_of reply_of planned_message
reply_signed file h r s leaf place has by stands =
    let k : Replier = authority file h in
    record {
      entry = record { key = Reply; leaf = leaf; text = reply_part k r s; place = place };
      stands = stands;
      replies = refl;
      there = refl;
      header = header_octets (with_algorithm (reply_header k.keys r.change s) (Some (algorithm_octets hss_lms)));
      body = reply_body k r r.change;
      part = refl;
      whole = rw (has, by) refl;
    }

pub replies_signed : (file : List ℕ) (h : History) → RepliesAreSigned file h
replies_signed file h n r s leaf e has by =
    let m = made h n r e in
    let front : History = take (suc m.0) h in
    let long : length front ≡ suc m.0 = front_long h m.0 m.2.change m.2.stands in
    let change : r.change ≡ m.2.change = ap (λ (x : Receipted). x.change) m.2.is in
    let stamp : m.2.stamp ≡ s = same_Some m.2.stamp s (sym m.2.has ∙ ap stamp_of (sym change) ∙ has) in
    let receipt : receipt_of front (length front) m.2.change s ≡ r = ap (λ (x : Stamp). receipt_of front (length front) m.2.change x) (sym stamp) ∙ ap (λ (p : ℕ). receipt_of front p m.2.change m.2.stamp) long ∙ sym m.2.is in
    let part = part_stands (authority file h) front m.2.change s leaf (ap stamp_of (sym change) ∙ has) by in
    let named = subst (λ (x : Receipted). Stands (record { key = Reply; leaf = leaf; text = reply_part (authority file h) x s; place = length front }) (last_texts (authority file h) front m.2.change)) receipt part in
    let placed = subst (λ (p : ℕ). Stands (record { key = Reply; leaf = leaf; text = reply_part (authority file h) r s; place = p }) (last_texts (authority file h) front m.2.change)) (long ∙ sym m.1) named in
    reply_signed file h r s leaf n has by (in_history (authority file h) h m.0 m.2.change _ m.2.stands placed)
