-- What a change tells of its reply, and the parts that make a reply.
use Rattle.std.specs.Prelude.{ℕ, ◌≡◌, ◌<◌, ◌≤◌, Bool, List, [], length, Option, Some, None, IfSome, Result, IfOk}
use Rattle.std.proofs.Common.{sym, ◌∙◌, ap, subst, arith}
use Rattle.std.proofs.lemmas.List.{length-append}
use Rattle.std.proofs.lemmas.Bool.Decides.{nat_tests}
use Rattle.std.proofs.lemmas.Result.{IfOk-weaker}
use Rattle.der_base.specs.Element.{element}
use Rattle.pki_parts.specs.Polling.{poll_rep_octets}
use Rattle.cert_maker.specs.Certificates.{cert_of}
use Rattle.hss_sig.specs.OneLevel.{hss_signature, leaf_count}
use Rattle.deal_changes.specs.declared.change.Body4.{Body4}
use Rattle.deal_changes.specs.declared.change.Change.{Change}
use Rattle.deal_changes.specs.declared.change.Change.TheVariants.{Found, Enlist, Dismiss, Grant, Hold, Release, Deny, Turned, Polled, Settled, Revoke, Lapse}
use Rattle.deal_changes.specs.declared.change.Settings.{Settings}
use Rattle.deal_changes.specs.declared.change.Stamp.{Stamp}
use Rattle.deal_changes.specs.Spelling.{stamp}
use Rattle.deal_changes.specs.Times.{stamp_of}
use Rattle.deal_model.specs.declared.asking.Brief.{Brief}
use Rattle.deal_model.specs.Keys.{tree_of, leaves_of, leaves_by_code}
use Rattle.deal_model.specs.Rules.{size_of}
use Rattle.deal_table.specs.History.{Receipted, brief_of}
use Rattle.pbmac.specs.Mac.{mac_of}
use Rattle.pki_header.specs.declared.plan.HeaderPlan.{HeaderPlan}
use Rattle.protect.specs.Algorithms.{hss_lms, mac_algorithm}
use Rattle.reply_maker.specs.Certificates as own
use Rattle.reply_maker.specs.Keys.{issue_secret, reply_secret}
use Rattle.reply_maker.specs.Messages.{planned_message, salt_in}
use Rattle.reply_maker.specs.InForce.{IsInForce}
use Rattle.reply_maker.specs.Replies.{replier_of, ca_pubs_for, granted_status, status_octets, response_body, granted_body, reply_id, body_of, reply_header, reply_body, sealed, sealed_for, reply_of}

-- ---- leaves

count_is : (code : ℕ) → leaf_count code ≡ leaves_by_code code
count_is code = grind (arith, nat_tests)

leaves_are : (key : List ℕ) → leaf_count (tree_of key) ≡ leaves_of key
unfolding leaves_of
leaves_are key = count_is (tree_of key)

-- a leaf of the key that issues, and of that which replies
pub is_leaf : (file : List ℕ) (s : Settings) (leaf : ℕ) → leaf < leaves_of s.issue_key → leaf < leaf_count (issue_secret file s).tree
unfolding issue_secret
is_leaf file s leaf below = omega (arith, leaves_are s.issue_key)

pub is_reply_leaf : (file : List ℕ) (s : Settings) (leaf : ℕ) → leaf < leaves_of s.reply_key → leaf < leaf_count (reply_secret file s).tree
unfolding reply_secret
is_reply_leaf file s leaf below = omega (arith, leaves_are s.reply_key)

-- the leaf of a stamp is one of the key that replies
pub leaf_below : (file : List ℕ) (s : Settings) (r : Receipted) (t : Stamp) (leaf : ℕ) → IsInForce s r → stamp_of r.change ≡ Some t → t.leaf ≡ Some leaf
    → leaf < leaf_count (reply_secret file s).tree
leaf_below file s r t leaf force is by =
    let own_leaf : IfSome t.leaf (λ l. l < leaves_of s.reply_key) =
    subst (λ (o : Option Stamp). IfSome o (λ t. IfSome t.leaf (λ l. l < leaves_of s.reply_key))) is force.signed in
    is_reply_leaf file s leaf (subst (λ (o : Option ℕ). IfSome o (λ l. l < leaves_of s.reply_key)) by own_leaf)

-- ---- stamps

sender_le : (s : Stamp) → length s.sender ≤ length (stamp s)
sender_le s = simp length-append (omega arith)

-- the sender of a stamp is a part of its change
pub sender_short : (c : Change) (s : Stamp) → stamp_of c ≡ Some s → length s.sender ≤ size_of c
sender_short (Found x) s h = absurd (cc)
sender_short (Enlist time list) s h = absurd (cc)
sender_short (Dismiss time w) s h = absurd (cc)
sender_short (Grant t b w serial leaf) s h =
    let e : t ≡ s = cc in
    rw (← e) (simp length-append (omega (arith, sender_le t)))
sender_short (Hold t b w) s h =
    let e : t ≡ s = cc in
    rw (← e) (simp length-append (omega (arith, sender_le t)))
sender_short (Release time tid) s h = absurd (cc)
sender_short (Deny time tid) s h = absurd (cc)
sender_short (Turned t) s h =
    let e : t ≡ s = cc in
    rw (← e) (simp length-append (omega (arith, sender_le t)))
sender_short (Polled t) s h =
    let e : t ≡ s = cc in
    rw (← e) (simp length-append (omega (arith, sender_le t)))
sender_short (Settled t accepted) s h =
    let e : t ≡ s = cc in
    rw (← e) (simp length-append (omega (arith, sender_le t)))
sender_short (Revoke t serial reason) s h =
    let e : t ≡ s = cc in
    rw (← e) (simp length-append (omega (arith, sender_le t)))
sender_short (Lapse time tid) s h = absurd (cc)

-- ---- bodies

pub granted_is : {E : Type 0} (answer : Result (List ℕ) E) (file : List ℕ) (s : Settings) (b : Body4) (mods : Bool) (c : Change) (pubs : Option (List ℕ)) (root cert : List ℕ)
    → pubs ≡ ca_pubs_for root b → root ≡ own.root_of (issue_secret file s) s → cert ≡ cert_of (hss_signature (issue_secret file s)) (brief_of s) c
    → IfOk answer (λ o. o ≡ response_body b pubs (status_octets (granted_status mods) None None) (Some cert))
    → IfOk answer (λ o. o ≡ granted_body (replier_of file s) b mods c)
unfolding replier_of
granted_is answer file s b mods c pubs root cert p q same h =
    IfOk-weaker answer _ _ (λ o made. made
    ∙ ap (λ (x : Option (List ℕ)). response_body b x (status_octets (granted_status mods) None None) (Some cert)) (p ∙ ap (λ (x : List ℕ). ca_pubs_for x b) q)
    ∙ ap (λ (x : List ℕ). response_body b (ca_pubs_for (own.root_of (issue_secret file s) s) b) (status_octets (granted_status mods) None None) (Some x)) same) h

pub polled_is : {E : Type 0} (answer : Result (List ℕ) E) (file : List ℕ) (s : Settings) (r : Receipted) (c : Change) (t : Stamp) (b : Body4) (after : ℕ)
    → c ≡ Polled t → b ≡ body_of r → after ≡ s.check_after
    → IfOk answer (λ o. o ≡ element 0xBA (poll_rep_octets (reply_id b) after))
    → IfOk answer (λ o. o ≡ reply_body (replier_of file s) r c)
unfolding replier_of
polled_is answer file s r c t b after is began again h =
    IfOk-weaker answer _ _ (λ o made. made
    ∙ ap (λ (x : Body4). element 0xBA (poll_rep_octets (reply_id x) after)) began
    ∙ ap (λ (n : ℕ). element 0xBA (poll_rep_octets (reply_id (body_of r)) n)) again
    ∙ sym (ap (reply_body (replier_of file s) r) is)) h

-- ---- the reply

abbrev reply_to : List ℕ → Settings → Receipted → List ℕ
reply_to file s r = reply_of (replier_of file s) r

abbrev stamped : List ℕ → Settings → Receipted → Stamp → Option ℕ → List ℕ
stamped file s r t leaf = sealed (replier_of file s) r t (reply_header (brief_of s) r.change t) (reply_body (replier_of file s) r r.change) leaf

stamped_is : (file : List ℕ) (s : Settings) (r : Receipted) (t : Stamp) (leaf : Option ℕ) → stamp_of r.change ≡ Some t → t.leaf ≡ leaf
    → stamped file s r t leaf ≡ reply_to file s r
unfolding reply_of replier_of
stamped_is file s r t leaf is by =
    ap (stamped file s r t) (sym by) ∙ ap (sealed_for (replier_of file s) r) (sym is)

-- no octets are the reply to a change that no message made
pub none_is : (file : List ℕ) (s : Settings) (r : Receipted) → stamp_of r.change ≡ None → [] ≡ reply_to file s r
unfolding reply_of
none_is file s r is = ap (sealed_for (replier_of file s) r) (sym is)

-- a message of the reply's header and body that is signed so, or has this MAC, is the reply
pub signed_is : {E : Type 0} (answer : Result (List ℕ) E) (file : List ℕ) (s : Settings) (r : Receipted) (t : Stamp) (leaf : ℕ) (p : HeaderPlan) (body : List ℕ)
    → stamp_of r.change ≡ Some t → t.leaf ≡ Some leaf → p ≡ reply_header (brief_of s) r.change t → body ≡ reply_body (replier_of file s) r r.change
    → IfOk answer (λ o. o ≡ planned_message p body (Some hss_lms) (λ part. Some (hss_signature (reply_secret file s) leaf part)) (Some (own.reply_of (issue_secret file s) s)))
    → IfOk answer (λ o. o ≡ reply_to file s r)
unfolding replier_of
signed_is answer file s r t leaf p body is by header same h =
    IfOk-weaker answer _ _ (λ o made. made
    ∙ ap (λ (q : HeaderPlan). planned_message q body (Some hss_lms) (λ part. Some (hss_signature (reply_secret file s) leaf part)) (Some (own.reply_of (issue_secret file s) s))) header
    ∙ ap (λ (l : List ℕ). planned_message (reply_header (brief_of s) r.change t) l (Some hss_lms) (λ part. Some (hss_signature (reply_secret file s) leaf part)) (Some (own.reply_of (issue_secret file s) s))) same
    ∙ stamped_is file s r t (Some leaf) is by) h

abbrev masked : List ℕ → List ℕ → ℕ → HeaderPlan → List ℕ → List ℕ
masked key words rounds p body =
    planned_message p body (Some (mac_algorithm (salt_in words) rounds)) (λ part. Some (mac_of key (record { salt = salt_in words; rounds = rounds }) part)) None

pub macked_is : {E : Type 0} (answer : Result (List ℕ) E) (file : List ℕ) (s : Settings) (r : Receipted) (t : Stamp) (p : HeaderPlan) (body secret : List ℕ) (keys : Brief)
    → stamp_of r.change ≡ Some t → t.leaf ≡ None → p ≡ reply_header (brief_of s) r.change t → body ≡ reply_body (replier_of file s) r r.change
    → secret ≡ r.key → keys ≡ brief_of s
    → IfOk answer (λ o. o ≡ masked secret t.words keys.rounds p body)
    → IfOk answer (λ o. o ≡ reply_to file s r)
unfolding replier_of
macked_is answer file s r t p body secret keys is by header same own_secret own_keys h =
    IfOk-weaker answer _ _ (λ o made. made
    ∙ ap (λ (l : List ℕ). masked l t.words keys.rounds p body) own_secret
    ∙ ap (λ (b : Brief). masked r.key t.words b.rounds p body) own_keys
    ∙ ap (λ (q : HeaderPlan). masked r.key t.words s.rounds q body) header
    ∙ ap (masked r.key t.words s.rounds (reply_header (brief_of s) r.change t)) same
    ∙ stamped_is file s r t None is by) h
