-- The frame list of worked rows: a queue head in block 130, whose linking has made a store, and an iTD in block 140.
--     list         with one store made
--     unstored     with none
--     leaving      where the iTD is unlinked next, and stored that list once its one store was made
use Rattle.std.specs.Prelude.{true, Some}
use Rattle.usb_base.specs.Rules.{first_rules}
use Rattle.drv_periodic_table.specs.Periodic.{PeriodicContent, new_periodic}
use Rattle.drv_chains.specs.declared.members.Member.TheVariants.{Once}
use Rattle.drv_periodic.specs.Periodic.{after_store}
use Rattle.law_frame_list.specs.list_closed.Worked.{itd, both, work}

abbrev pub list : PeriodicContent
list = record (new_periodic 0 1 1 first_rules) { list = record { list = 0; members = record { schedule = both; queue_room = 1; descriptor_room = 1 }; work = Some work } }

abbrev pub unstored : PeriodicContent
unstored = record list { list = record list.list { work = Some (record work { made = 0 }) } }

abbrev pub leaving : PeriodicContent
leaving = record list { list = record list.list { work = Some (record { member = Once itd; removes = true; made = 0 }) } }

abbrev pub stored : PeriodicContent
stored = record leaving { list = after_store leaving.list }
