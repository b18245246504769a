use Rattle.drv_table.specs.Commands.{advance}
use Rattle.law_driver_ring.proofs.Quiet.{quiet_drives}
use Rattle.law_driver_ring.proofs.Storing.{element_store_drives, link_store_drives}
use Rattle.law_driver_ring.proofs.Viewing.{advance_views}
use Rattle.law_driver_ring.proofs.part_laws.rows_leave_it_driven.Goals as goal

pub returns : goal.returns
returns c = record {
  quiet = quiet_drives;
  element = λ base member parts hand w r m d b n a t new k v drives can. element_store_drives base member parts hand w r m d (advance d) b n a t new k v drives (advance_views d) can;
  link = λ base member wider parts hand w r m d b n q l drives can. link_store_drives base member wider parts hand w r m d (advance d) b n q l drives (advance_views d) can;
}
