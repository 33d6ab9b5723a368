-- The octets are cut behind the tag and the octets of the length; each return is what reading gives there.
use Rattle.std.proofs.Common.{refl, ◌∙◌, arith, get_or}
use Rattle.der_base.proofs.ElementLemmas.{behind_two, two_in_front, reads_short, short_behind, bad_tag_behind, bad_length_behind, read_behind, IsBehind}
use Rattle.der_base.proofs.element.split_element.Goals as goal

pub returns-then-rest-more-clause-exact : goal.returns-then-rest-more-clause-exact
returns-then-rest-more-clause-exact c =
    let b = c.args.bytes.now in
    rw (two_in_front b c.in-len2-up.len_at_least) (reads_short (get_or b 0 0) (get_or b 1 0) (behind_two b) _ refl (omega (arith, c.more_of-more.ensures.value)))

pub returns-then-after-size-clause-exact : goal.returns-then-after-size-clause-exact
returns-then-after-size-clause-exact c =
    let b = c.args.bytes.now in
    let behind : IsBehind b c.more_of-more.result c.stands_for-size.result c.split_at.result.0.now c.split_at.result.1.now = record { two = c.in-len2-up.len_at_least; more_is = c.more_of-more.ensures.value; enough = omega arith; count_is = c.split_at.ensures.front; after_is = c.split_at.ensures.back; number = c.stands_for-size.ensures.value } in
    short_behind _ _ _ _ _ behind c.if-after-size.true

pub returns-then-tag-eq31-clause-exact : goal.returns-then-tag-eq31-clause-exact
returns-then-tag-eq31-clause-exact c =
    let b = c.args.bytes.now in
    let behind : IsBehind b c.more_of-more.result c.stands_for-size.result c.split_at.result.0.now c.split_at.result.1.now = record { two = c.in-len2-up.len_at_least; more_is = c.more_of-more.ensures.value; enough = omega arith; count_is = c.split_at.ensures.front; after_is = c.split_at.ensures.back; number = c.stands_for-size.ensures.value } in
    bad_tag_behind _ _ _ _ _ behind c.if-after-size.false c.if-tag-eq31.true

pub returns-then-not-is_fewest-clause-exact : goal.returns-then-not-is_fewest-clause-exact
returns-then-not-is_fewest-clause-exact c =
    let b = c.args.bytes.now in
    let behind : IsBehind b c.more_of-more.result c.stands_for-size.result c.split_at.result.0.now c.split_at.result.1.now = record { two = c.in-len2-up.len_at_least; more_is = c.more_of-more.ensures.value; enough = omega arith; count_is = c.split_at.ensures.front; after_is = c.split_at.ensures.back; number = c.stands_for-size.ensures.value } in
    bad_length_behind _ _ _ _ _ behind c.if-after-size.false c.if-tag-eq31.false (λ after. c.is_fewest.ensures after ∙ c.if-not-is_fewest.true)

pub returns-clause-exact : goal.returns-clause-exact
returns-clause-exact c =
    let b = c.args.bytes.now in
    let behind : IsBehind b c.more_of-more.result c.stands_for-size.result c.split_at.result.0.now c.split_at.result.1.now = record { two = c.in-len2-up.len_at_least; more_is = c.more_of-more.ensures.value; enough = omega arith; count_is = c.split_at.ensures.front; after_is = c.split_at.ensures.back; number = c.stands_for-size.ensures.value } in
    read_behind _ _ _ _ _ behind c.if-after-size.false c.if-tag-eq31.false c.stands_for-size.ensures.bound (λ after. c.is_fewest.ensures after ∙ c.if-not-is_fewest.false) _ _ _ c.split_at-2.ensures.front c.split_at-3.ensures.front c.split_at-2.ensures.back
