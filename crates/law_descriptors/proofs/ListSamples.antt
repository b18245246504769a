-- The worked store: the one that unlinks an iTD.
use Rattle.std.proofs.Common.{◌≡◌, Bool, true, false, [], List, length, Option, Some, None, if◌then◌else◌, ap, refl, ◌∙◌, arith}
use Rattle.std.specs.Prelude.{not, nat_lt}
use Rattle.drv_chains.specs.declared.members.Member.{Member}
use Rattle.drv_chains.specs.declared.members.Member.TheVariants.{Once}
use Rattle.drv_chains.specs.declared.members.Predecessor.{Predecessor}
use Rattle.drv_members.specs.Members.{without_member, with_schedule}
use Rattle.drv_members.specs.Ranks.{is_called}
use Rattle.drv_members.proofs.Splits.{IsAt}
use Rattle.drv_periodic.specs.Periodic.{Periodic, is_more}
use Rattle.drv_periodic.proofs.Words.{descriptor_words}
use Rattle.law_frame_list.specs.list_closed.Worked.{itd, both}
use Rattle.law_frames.specs.Met.{AQueue, AnItd}
use Rattle.law_descriptors.specs.Meeting.{standing_in, no_recent}
use Rattle.law_descriptors.specs.ListRows.{leaves_now, recent_with}
use Rattle.law_descriptors.specs.RowWorked.{leaving, stored}

itd_at : IsAt (is_called itd.id) itd both.descriptors
itd_at = record { front = []; back = []; is = refl; before = tt; behind = tt }

no_more : is_more both (record { member = Once itd; removes = true; made = 0 }) ≡ false
no_more = ap (λ (ws : List Predecessor). nat_lt 1 (length ws)) (descriptor_words both itd (omega arith) itd_at)

pub itd_leaves : leaves_now leaving.list ≡ Some (Once itd)
itd_leaves = ap (λ (b : Bool). if not b then Some (Once itd) else None) no_more

-- the list once the store was made
abbrev after : Bool → Periodic
after b =
    if b then record leaving.list { work = Some (record { member = Once itd; removes = true; made = 1 }) }
    else record { list = 0; members = with_schedule leaving.list.members (without_member both (Once itd)); work = None }

pub itd_gone : standing_in stored 4480 ≡ None
itd_gone = ap (λ (b : Bool). standing_in (record leaving { list = after b }) 4480) no_more ∙ refl

pub queue_stays : standing_in stored 4160 ≡ Some AQueue
queue_stays = ap (λ (b : Bool). standing_in (record leaving { list = after b }) 4160) no_more ∙ refl

pub itd_recent : recent_with leaving (leaves_now leaving.list) no_recent 4480 ≡ Some AnItd
itd_recent = ap (λ (o : Option Member). recent_with leaving o no_recent 4480) itd_leaves ∙ refl
