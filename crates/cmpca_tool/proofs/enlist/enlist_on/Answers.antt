-- The reply is by how the listing ended; without memory for its line nothing is done.
use Rattle.std.proofs.Common.{refl, ap, ◌∙◌}
use Rattle.cmp_ports.specs.Moments.{started, weaker}
use Rattle.desk.specs.declared.answers.Listing.TheVariants as listing
use Rattle.desk.specs.Due.{event_time}
use Rattle.desk.specs.Images.{RecoversWith, MayCome}
use Rattle.desk.specs.Listings.{IsEnlisting}
use Rattle.cmpca_tool.specs.Deeds.{listing_line, enlisted_line}
use Rattle.cmpca_tool.proofs.FileLemmas.{fit_desk}
use Rattle.cmpca_tool.proofs.ChangeLemmas.{idle}
use Rattle.cmpca_tool.proofs.StepLemmas.{no_step, enlisted_step, doubt_own, own_alone}
use Rattle.cmpca_tool.proofs.enlist.enlist_on.Goals as goal

pub enlist-listing-requires-clause-fit : goal.enlist-listing-requires-clause-fit
enlist-listing-requires-clause-fit g c = fit_desk c.args.list.now c.requires.listable

pub returns-in-Err-clause-reply : goal.returns-in-Err-clause-reply
returns-in-Err-clause-reply g c = record { ended = listing.NoMemory; is_ended = (refl, c.requires.clear); ends = c.no_memory.ensures.ends; says = c.no_memory.ensures.says }

pub returns-clause-reply : goal.returns-clause-reply
returns-clause-reply g c = record {
  ended = c.enlist-listing.result;
  is_ended = rw c.requires.clear at c.enlist-listing.ensures.ends;
  ends = c.listing_status.ensures.status;
  says = c.listing_text.ensures ∙ ap (λ l. listing_line l c.enlist-listing.result) (c.in-Ok.ensures ∙ ap enlisted_line c.len.ensures);
}

pub returns-in-Err-clause-moments : goal.returns-in-Err-clause-moments
returns-in-Err-clause-moments g c =
    let s = c.args.desk.now in
    let h = s.history.items in
    let Own = IsEnlisting c.args.list.now (event_time h c.args.now) in
    started g.F.Disk.moment g.F.Disk.left_since s.disk (RecoversWith h (MayCome Own h)) (λ image left. idle h s.doubt (MayCome Own h) image c.requires.clear (c.stands_for_its_disk.ensures.images image (g.met.F.Disk.only_now s.disk image left)))

pub returns-in-Err-clause-makes : goal.returns-in-Err-clause-makes
returns-in-Err-clause-makes g c = no_step _ _ _ _ refl c.requires.clear

pub returns-clause-makes : goal.returns-clause-makes
returns-clause-makes g c = enlisted_step _ _ _ _ c.enlist-listing.result _ (rw c.requires.clear at c.enlist-listing.ensures.ends) (doubt_own _ _ _ _ c.requires.clear c.enlist-listing.ensures.doubt)

pub returns-clause-moments : goal.returns-clause-moments
returns-clause-moments g c = weaker _ _ _ _ _ _ c.enlist-listing.ensures.moments (λ image left. own_alone _ _ _ image c.requires.clear left)
