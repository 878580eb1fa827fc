-- Where an offer finds no room, and what a fetch finds.
use Rattle.std.specs.Prelude.{◌≡◌, ℕ, ◌+◌, ◌<◌, List, [], ◌∷◌, slice_get, slice_index, Option, Some, IsSome}
use Rattle.intern_core.specs.declared.shape.Shape.{Shape}
use Rattle.intern_core.specs.declared.history.EntryWords.{EntryWords}
use Rattle.intern_core.specs.declared.history.Entry.{Entry}
use Rattle.intern_core.specs.declared.seat.Phase.{Phase}
use Rattle.intern_core.specs.declared.seat.Phase.TheVariants.{Offering, ClaimingBlock}
use Rattle.intern_core.specs.Layout.{entries_at, list_at}
use Rattle.intern_core.specs.History.{Listing, listing_in}
use Rattle.intern_core.specs.Image.{flat}

-- the claim word and the length are together above the entries; or the seat was answered so before, and the list word is 0
abbrev pub HasNoRoom : Shape → List ℕ → Option ℕ → Phase → Type 0
HasNoRoom shape words refused (ClaimingBlock number len) = shape.entries < slice_index words entries_at + len
HasNoRoom shape words refused (Offering number len) = (slice_index words (list_at number) ≡ 0) × IsSome refused
HasNoRoom shape words refused other = ⊥

-- an entry of the list that the history has for a number
abbrev pub IsPublished : List Entry → ℕ → ℕ → EntryWords → Type 0
IsPublished history number at words =
    (l : Listing) × (listing_in history number ≡ Some l) × (e : EntryWords) × (slice_get l.words at ≡ Some e) × (flat (words ∷ []) ≡ flat (e ∷ []))
