-- The translators of a hub (USB 2.0, 11.14): one for all its ports, or one for each.
--     Translator              what one has: its two buffers and its pipeline
--     Translators             those of a hub
--     translator_at port ts   the one that serves a port, if the hub has this port
--     changed_at port f ts    with that one changed
use Rattle.std.specs.Prelude.{ℕ, ◌-◌, Bool, nat_le, if◌then◌else◌, List, [], replicate, slice_get, slice_set, Option, Some, None}
use Rattle.std.specs.Option.{option_and_then}
use Rattle.tt_bulk.specs.Contents.{TwoBuffers}
use Rattle.tt_bulk.specs.Contents as Bulk
use Rattle.tt_pipeline.specs.declared.entry.Entry.{Entry}

pub record Translator : Type 0 where
  pub bulk : TwoBuffers  -- for bulk and control transactions
  pub pipeline : List Entry  -- for interrupt and isochronous ones

pub record Translators : Type 0 where
  pub multi : Bool  -- there is one for each port
  pub all : List Translator  -- from port 1 on, or the only one

-- both buffers are free, and nothing is in the pipeline
abbrev pub opening : Translator
opening = record { bulk = Bulk.opening; pipeline = [] }

-- those of a hub with so many ports
abbrev pub opening_of : ℕ → Bool → Translators
opening_of ports multi = record { multi = multi; all = replicate (if multi then ports else 1) opening }

-- the place of the one that serves a port
abbrev pub place_of : Bool → ℕ → Option ℕ
place_of multi port = if multi then (if nat_le 1 port then Some (port - 1) else None) else Some 0

abbrev pub translator_at : ℕ → Translators → Option Translator
translator_at port ts = option_and_then (λ place. slice_get ts.all place) (place_of ts.multi port)

-- the list with what stands at a place changed, if something does
abbrev pub put_if : Option Translator → ℕ → (Translator → Translator) → List Translator → List Translator
put_if None place f ts = ts
put_if (Some t) place f ts = slice_set ts place (f t)

abbrev pub changed_place : Option ℕ → (Translator → Translator) → List Translator → List Translator
changed_place None f ts = ts
changed_place (Some place) f ts = put_if (slice_get ts place) place f ts

abbrev pub changed_at : ℕ → (Translator → Translator) → Translators → Translators
changed_at port f ts = record ts { all = changed_place (place_of ts.multi port) f ts.all }
