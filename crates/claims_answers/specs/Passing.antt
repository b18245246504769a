-- What an event of a driver changes of its transfers, and of what it noted of their qTDs as it accepted them (EHCI 1.0, 3.5.3 and 4.10).
--     IsLater y z              z is the transfer y later on: of the same endpoint, with the same qTDs, to move as many bytes; what was told
--                              and what was given back stays so
--     Stays y z                the same qTD is to be read next
--     NotesOne p new b         the bytes that were moved in the qTD in block b are noted, its length less what its token left, and no
--                              other note changes
--     ReadsNothing, PassesQtd, EndsTransfer, IsServed     no token is read, or it is active still; or the next qTD comes next; or the
--                              transfer has its line; or an isochronous one has
--     KeepsTransfers row p new     just so it is of an event of this row
use Rattle.std.specs.Prelude.{◌≡◌, ◌≢◌, ℕ, ◌-◌, ◌<◌, true, false, length, slice_get, Some}
use Rattle.drv_periodic_table.specs.Periodic.{note_at as descriptor_at}
use Rattle.drv_table.specs.declared.content.Transfer.{Transfer}
use Rattle.drv_table.specs.declared.rows.DriverRow.{DriverRow}
use Rattle.drv_table.specs.declared.rows.DriverRow.TheVariants.{Harvest}
use Rattle.drv_table.specs.declared.rows.Found.{Found}
use Rattle.drv_table.specs.DriverContent.{DriverContent}
use Rattle.drv_table.specs.Harvests.{note_at}
use Rattle.drv_table.specs.Parts.{Parts}
use Rattle.claims_driver.specs.Owners.{is_descriptor}
use Rattle.claims_answers.specs.Slots.{is_done}
use Rattle.claims_answers.specs.Telling.{token_of, less}

-- ---- one transfer

pub record IsLater (y z : Transfer) : Type 0 where
  pub endpoint : z.endpoint ≡ y.endpoint
  pub sort : z.sort ≡ y.sort
  pub first : z.first ≡ y.first
  pub qtds : z.qtds ≡ y.qtds
  pub most : z.most ≡ y.most
  pub told : y.reported ≡ true → z.reported ≡ true
  pub returned : y.released ≡ true → z.released ≡ true

pub record Stays (y z : Transfer) : Type 0 where
  pub place : z.place ≡ y.place
  pub left : z.left ≡ y.left

-- as transfer t was, and is
abbrev pub Each : (ℕ → Transfer → Transfer → Type 0) → DriverContent → DriverContent → Type 0
Each so d new = (t : ℕ) (y z : Transfer) → slice_get d.transfers t ≡ Some y → slice_get new.transfers t ≡ Some z → so t y z

-- ---- tokens

pub record NotesOne (p : Parts) (new : DriverContent) (b : ℕ) : Type 0 where
  pub done : (token_of p.memory b).active ≡ false
  pub moved : b < length p.driver.notes
      → note_at new.notes b ≡ record (note_at p.driver.notes b) { moved = less (note_at p.driver.notes b).told (token_of p.memory b).total }
  pub others : (c : ℕ) → c ≢ b → note_at new.notes c ≡ note_at p.driver.notes c

-- the harvest leaves transfer y as it is only while its token, or one of its slots, is active
pub record IsUnderWay (p : Parts) (y : Transfer) : Type 0 where
  pub token : is_descriptor y.sort ≡ false → (token_of p.memory y.place).active ≡ true
  pub slots : is_descriptor y.sort ≡ true → is_done (descriptor_at p.driver.periodic.notes y.first) p.memory y.first ≡ false

pub record ReadsNothing (row : DriverRow) (p : Parts) (new : DriverContent) : Type 0 where
  pub notes : new.notes ≡ p.driver.notes
  pub stay : Each (λ t y z. Stays y z) p.driver new
  pub active : (e t : ℕ) (found : Found) (y : Transfer) → row ≡ Harvest e t found → slice_get p.driver.transfers t ≡ Some y → IsUnderWay p y

pub record IsServed (p : Parts) (new : DriverContent) : Type 0 where
  pub number : ℕ
  pub transfer : Transfer
  pub there : slice_get p.driver.transfers number ≡ Some transfer
  pub sort : is_descriptor transfer.sort ≡ true
  pub served : is_done (descriptor_at p.driver.periodic.notes transfer.first) p.memory transfer.first ≡ true
  pub notes : new.notes ≡ p.driver.notes
  pub told : (z : Transfer) → slice_get new.transfers number ≡ Some z → z.reported ≡ true
  pub stay : Each (λ t y z. Stays y z) p.driver new

pub record PassesQtd (p : Parts) (new : DriverContent) : Type 0 where
  pub number : ℕ
  pub transfer : Transfer
  pub there : slice_get p.driver.transfers number ≡ Some transfer
  pub noted : NotesOne p new transfer.place
  pub whole : (token_of p.memory transfer.place).halted ≡ false
  pub next : (z : Transfer) → slice_get new.transfers number ≡ Some z → z.place ≡ (note_at p.driver.notes transfer.place).next
  pub left : (z : Transfer) → slice_get new.transfers number ≡ Some z → z.left ≡ transfer.left - 1
  pub stay : Each (λ t y z. t ≢ number → Stays y z) p.driver new

pub record EndsTransfer (p : Parts) (new : DriverContent) : Type 0 where
  pub number : ℕ
  pub transfer : Transfer
  pub there : slice_get p.driver.transfers number ≡ Some transfer
  pub noted : NotesOne p new transfer.place
  pub told : (z : Transfer) → slice_get new.transfers number ≡ Some z → z.reported ≡ true
  pub stay : Each (λ t y z. Stays y z) p.driver new

pub data ReadsTokens (row : DriverRow) (p : Parts) (new : DriverContent) : Type 0 where
  nothing : ReadsNothing row p new → ReadsTokens row p new
  passes : PassesQtd p new → ReadsTokens row p new
  ends : EndsTransfer p new → ReadsTokens row p new
  serves : IsServed p new → ReadsTokens row p new

-- ---- an event

pub record KeepsTransfers (row : DriverRow) (p : Parts) (new : DriverContent) : Type 0 where
  pub many : length new.transfers ≡ length p.driver.transfers
  pub later : Each (λ t y z. IsLater y z) p.driver new
  pub tokens : ReadsTokens row p new
