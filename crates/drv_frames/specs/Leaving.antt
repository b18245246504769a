-- What leaves the frame list, and what is given back.
--     list_made stored l          the frame list once its store was made, if `stored`
--     more_leaving h e t          the queued members, and the descriptor of the transfer, if it waits at endpoint e
--     leaving_members h ts e x p  the members of endpoint e: its queue head, or its descriptors that wait
--     freed_waiting notes e h t   the blocks of a descriptor are given back, if it waits at endpoint e
--     freed_placed ..             those of an interrupt endpoint, or of the descriptors of an isochronous one that wait
use Rattle.std.specs.Prelude.{ℕ, Bool, List, [], ◌∷◌, ◌++◌, map, filter, if◌then◌else◌}
use Rattle.mem_runs.specs.Book.{Holding}
use Rattle.bandwidth.specs.declared.placements.Placement.{Placement}
use Rattle.drv_chains.specs.declared.members.Member.{Member}
use Rattle.drv_periodic.specs.Periodic.{Periodic, after_store}
use Rattle.drv_periodic_table.specs.declared.content.DescriptorNote.{DescriptorNote}
use Rattle.drv_periodic_table.specs.Periodic.{descriptor_member, queue_member}
use Rattle.drv_frames_content.specs.Part.{Held}
use Rattle.drv_table.specs.declared.content.Endpoint.{Endpoint}
use Rattle.drv_table.specs.declared.content.QtdNote.{QtdNote}
use Rattle.drv_table.specs.declared.content.Transfer.{Transfer}
use Rattle.drv_table.specs.DriverContent.{waits_for}
use Rattle.drv_table.specs.Kinds.{is_iso}
use Rattle.drv_table.specs.Releases.{free_runs, free_transfers}
use Rattle.drv_table.specs.Removals.{free_descriptor, free_descriptors}

abbrev pub list_made : Bool → Periodic → Periodic
list_made stored l = if stored then after_store l else l

abbrev pub more_leaving : Held → ℕ → Transfer → List Member
more_leaving h e t =
    if waits_for e t then h.periodic.queued ++ descriptor_member h.periodic.notes t.first ∷ [] else h.periodic.queued

abbrev pub leaving_members : Held → List Transfer → ℕ → Endpoint → Placement → List Member
leaving_members h ts e x p =
    if is_iso x.desc.kind then map (λ t. descriptor_member h.periodic.notes t.first) (filter (waits_for e) ts)
    else queue_member x.queue p ∷ []

abbrev pub freed_waiting : List DescriptorNote → ℕ → Holding → Transfer → Holding
freed_waiting notes e h t = if waits_for e t then free_descriptor notes h t.first else h

abbrev pub freed_placed : List QtdNote → List DescriptorNote → ℕ → Endpoint → Holding → List Transfer → Holding
freed_placed qtds notes e x h ts =
    if is_iso x.desc.kind then free_descriptors notes e h ts
    else free_transfers qtds e (free_runs h (x.queue ∷ x.dummy ∷ [])) ts
