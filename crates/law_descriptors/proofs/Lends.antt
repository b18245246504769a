-- All that was taken for isochronous descriptors is lent.
use Rattle.std.proofs.Common.{◌≡◌, ℕ, List, drop, Option, ap, sym, subst, ◌∙◌, arith}
use Rattle.std.proofs.lemmas.List.{take_all}
use Rattle.usb_base.specs.declared.endpoints.EpDesc.{EpDesc}
use Rattle.word_mem.specs.Memory.{Mem, IsShaped}
use Rattle.mem_runs.specs.Book.{Holding, holding, slot_of, lend_taken, Stands}
use Rattle.drv_table.specs.declared.content.Transfer.{Transfer}
use Rattle.drv_table.specs.declared.content.Command.{Command}
use Rattle.drv_table.specs.DriverContent.{DriverContent}
use Rattle.drv_table.specs.Parts.{Parts}
use Rattle.drv_table.specs.FrameChoice.{linked_descriptors, linked_by}
use Rattle.law_structures.specs.lent_structures.Changes.{Leaves}
use Rattle.law_driver_ring.proofs.Lent.{leaves_both, lend_taken_leaves}
use Rattle.law_driver_ring.specs.Written.{AreAllApart}
use Rattle.law_descriptors.specs.Written.{runs_of}
use Rattle.law_descriptors.specs.Lent.{after_lend, IsLending, LendLeaves}
use Rattle.law_descriptors.proofs.Linking.{AllKeep, linked_stands, linked_shaped, linked_leaves}

module _ (p : Parts) (t : ℕ) (x : EpDesc) (k : IsLending p t x) where
  abbrev pub d : DriverContent
  d = p.driver

  abbrev pub ys : List Transfer
  ys = drop t d.transfers

  -- with their links
  abbrev pub mid : Mem
  mid = linked_descriptors d.book d.periodic.list d.periodic.notes ys p.memory

  abbrev pub held : Holding
  held = holding d.book mid

  pub keep : AllKeep (slot_of d.book.slots) ys
  keep i y there = let r = (k.await.each i y there).written.run in record { run = r.run; is = r.is }

  pub apart : AreAllApart (runs_of d.periodic.notes ys)
  apart = subst AreAllApart k.await.taken k.await.apart

  pub mid_stands : Stands held
  mid_stands = linked_stands d.book d.periodic.list d.periodic.notes ys p.memory keep k.stands

  pub mid_shape : IsShaped mid
  mid_shape = linked_shaped d.book d.periodic.list d.periodic.notes ys p.memory k.shape

  pub mid_is : linked_by d p.memory d.command ≡ mid
  mid_is =
      ap (λ (o : Option Command). linked_by d p.memory o) k.await.command
      ∙ ap (λ (zs : List Transfer). linked_descriptors d.book d.periodic.list d.periodic.notes zs p.memory) (take_all k.await.count ys (let e = k.await.last in omega (arith, e)))

  pub memory_is : (after_lend p).memory ≡ (lend_taken held).memory
  memory_is = ap (λ (m : Mem). (lend_taken (holding d.book m)).memory) mid_is

  pub leaves_it : Leaves p.memory (after_lend p).memory
  leaves_it =
      subst (Leaves p.memory) (sym memory_is)
      (leaves_both p.memory mid (lend_taken held).memory (linked_leaves d.book d.periodic.list d.periodic.notes ys p.memory keep k.stands k.shape) (lend_taken_leaves held mid_stands mid_shape))

pub lend_leaves : LendLeaves
lend_leaves p t x k = leaves_it p t x k
