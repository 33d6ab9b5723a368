-- What is kept of a message fits its places, and its header is the one that was checked.
use Rattle.std.proofs.Common.{◌≡◌, ℕ, ◌+◌, ◌<◌, ◌≤◌, ◌^◌, ◌++◌, Bool, true, false, not, ◌||◌, cond, List, [], length, Option, Some, None, IsTrue, is_none, refl, sym, ap, subst, ◌∙◌, arith}
use Rattle.sha2.proofs.Facts256.{length-sha256}
use Rattle.std.specs.Prelude.{◌&&◌, nat_le, unwrap_or, IfSome}
use Rattle.std.proofs.lemmas.List.{length-append}
use Rattle.std.proofs.lemmas.Bool.{and_parts, leb-true}
use Rattle.der_base.specs.Element.{element, IsElement}
use Rattle.asn_types.proofs.LengthLemmas.{length_element_lt}
use Rattle.pki_header.specs.Header.{HeadForm, head_content}
use Rattle.pki_message.specs.Frame.{frame_content}
use Rattle.pki_message.specs.Message.{MessageForm, IsMessage, frame_in}
use Rattle.deal_changes.specs.Spelling.{IsBlob, IsShort, IsTid}
use Rattle.deal_changes.specs.declared.change.Kind.{Kind}
use Rattle.deal_model.specs.declared.asking.Ask.{Ask}
use Rattle.deal_model.specs.declared.asking.Echo.{Echo}
use Rattle.deal_table.specs.Carry.{FitsChecked, FitsJob, header_by}
use Rattle.deal_table.specs.Message.{Header, Echoed, is_version, reply_version, echo_of, echoed}
use Rattle.deal_table.specs.Table.{pass, header_rows, tid_of}
use Rattle.intake.specs.Checking.{checked_by}
use Rattle.intake.specs.Made.{heading_of, IsAskFor, IsMadeOf}
use Rattle.intake.specs.Values.{sized}
use Rattle.intake.specs.declared.subject.Subject.{Subject}

-- ---- a header in form

three : (P : Type 0) (a b c : Bool) → not (not a || (b || (c || false))) ≡ true → (a ≡ true → b ≡ false → c ≡ false → P) → P
three P true false false e go = go refl refl refl
three P true false true e go = absurd (let h : false ≡ true = e in cc)
three P true true c e go = absurd (let h : false ≡ true = e in cc)
three P false b c e go = absurd (let h : false ≡ true = e in cc)

some_is : (o : Option (List ℕ)) → is_none o ≡ false → o ≡ Some (unwrap_or o [])
some_is (Some x) e = refl
some_is None e = absurd (let h : true ≡ false = e in cc)

version_is : (n : ℕ) → is_version n ≡ true → reply_version n ≡ n
version_is n e = rw e refl

-- the header of the message is what was kept of it
pub header_back : (head : Header) (ask : Ask) (echo : Echo) (s : Subject) (outer_time : Option ℕ) (outer_key : Option (List ℕ)) → ask.tid ≡ tid_of head → ask.kind ≡ head.kind → ask.kid ≡ head.kid → echoed echo ≡ echo_of head
    → pass (header_rows head) ≡ true → head ≡ header_by (checked_by ask echo head s outer_time outer_key)
header_back head ask echo s outer_time outer_key tid kind kid echoes passes =
    three (head ≡ header_by (checked_by ask echo head s outer_time outer_key)) (is_version head.pvno) (is_none head.tid) (is_none head.sender_nonce) passes (λ v t n.
    let a : echo.pvno ≡ head.pvno = ap (λ (e : Echoed). e.pvno) echoes ∙ version_is head.pvno v in
    let b : echo.sender.now ≡ head.sender = ap (λ (e : Echoed). e.sender) echoes in
    let c : echo.nonce ≡ head.sender_nonce = ap (λ (e : Echoed). e.nonce) echoes in
    let d : Some ask.tid ≡ head.tid = ap (λ (x : List ℕ). Some x) tid ∙ sym (some_is head.tid t) in
    rw (a, b, c, d, kind, kid) refl)

-- ---- sizes

tid_fits : (o : Option (List ℕ)) → is_none (sized 1 64 o) ≡ false → IsTid (unwrap_or (sized 1 64 o) [])
tid_fits None e = absurd (let h : true ≡ false = e in cc)
tid_fits (Some x) e = choice (nat_le 1 (length x) && nat_le (length x) 64) refl e
  where
    choice : (b : Bool) → (nat_le 1 (length x) && nat_le (length x) 64) ≡ b → is_none (cond b (Some x) None) ≡ false → IsTid (unwrap_or (cond b (Some x) None) [])
    choice true is e =
        let p = and_parts (nat_le 1 (length x)) (nat_le (length x) 64) is in
        (leb-true _ _ p.0, leb-true _ _ p.1)
    choice false is e = absurd (let h : true ≡ false = e in cc)

nonce_fits : (least : ℕ) (o : Option (List ℕ)) → IfSome (sized least 64 o) IsShort
nonce_fits least None = tt
nonce_fits least (Some x) = choice (nat_le least (length x) && nat_le (length x) 64) refl
  where
    choice : (b : Bool) → (nat_le least (length x) && nat_le (length x) 64) ≡ b → IfSome (cond b (Some x) None) IsShort
    choice true is = leb-true _ _ (and_parts (nat_le least (length x)) (nat_le (length x) 64) is).1
    choice false is = tt

in_element : (octets content : List ℕ) (tag : ℕ) → IsElement octets tag content → length content ≤ length octets
in_element octets content tag is =
    let e : length octets ≡ length (element tag content) = ap length is.spelled in
    omega (arith, length_element_lt tag content)

sender_short : (bytes : List ℕ) (m : MessageForm) → IsMessage bytes m → length m.head.sender.whole ≤ 131072
sender_short bytes m is =
    let a : length (frame_content (frame_in m)) ≤ length bytes = in_element bytes (frame_content (frame_in m)) 0x30 is.alone in
    let b : length m.header_bytes ≤ length (frame_content (frame_in m)) = simp length-append (omega arith) in
    let c : length (head_content m.head) ≤ length m.header_bytes = in_element m.header_bytes (head_content m.head) 0x30 is.fits.frame.header in
    let d : length m.head.sender.whole ≤ length (head_content m.head) = simp length-append (omega arith) in
    omega (arith, is.limited)

-- what was checked can be spelled
pub fits_checked : (bytes octets : List ℕ) (m : MessageForm) (around : Header) (outer : Option (Kind × List ℕ)) (ask : Ask) (echo outer_echo : Echo) (s : Subject) (outer_time : Option ℕ) (outer_key : Option (List ℕ)) → IsMessage bytes m
    → pass (header_rows (heading_of (Some m))) ≡ true → IsMadeOf octets (heading_of (Some m)) around outer ask echo outer_echo → FitsJob s.task.job
    → FitsChecked (checked_by ask echo (heading_of (Some m)) s outer_time outer_key)
fits_checked bytes octets m around outer ask echo outer_echo s outer_time outer_key is passes made job = record {
  digest = ap length made.asked.digest ∙ length-sha256 octets;
  tid = subst IsTid (sym made.asked.tid) (three (IsTid (unwrap_or (sized 1 64 m.head.tid) [])) (is_version (heading_of (Some m)).pvno) (is_none (sized 1 64 m.head.tid)) (is_none (sized 16 64 m.head.sender_nonce)) passes (λ v t n. tid_fits m.head.tid t));
  sender = omega (arith, sender_short bytes m is, ap (λ (e : Echoed). length e.sender) made.echo_is);
  nonce = subst (λ (o : Option (List ℕ)). IfSome o IsShort) (sym (ap (λ (e : Echoed). e.nonce) made.echo_is)) (nonce_fits 16 m.head.sender_nonce);
  job = job;
}
