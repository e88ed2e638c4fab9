-- What a carry makes of the eras, from what is kept of them.
use Rattle.std.proofs.Common.{◌≡◌, ◌≤◌, List, [], ◌∷◌, ◌++◌, length, sym, ap, ◌∙◌}
use Rattle.std.specs.Prelude.{All}
use Rattle.std.proofs.lemmas.List.Elements.{All-nil}
use Rattle.group_types.specs.Dimensions.{Dimensions}
use Rattle.group_types.specs.Shape.{IsShape}
use Rattle.group_calls.specs.declared.entry.Entry.{Entry}
use Rattle.group_calls.specs.declared.event.Event.{Event}
use Rattle.group_run.specs.Headline.{IsRunFrom}
use Rattle.group_run.specs.World.{World, opening, world_after}
use Rattle.group_core.specs.Runs.{HasRun}
use Rattle.group_core.proofs.Runs.{begun}
use Rattle.group_eras.specs.Carry.{carried, reading, setting}
use Rattle.group_eras.specs.Eras.{Eras, eras_after, next_bases, next_era}
use Rattle.group_eras.specs.Items.{loads}
use Rattle.group_eras.specs.Told.{Bases}
use Rattle.group_regroup.specs.declared.changing.Lowered.{Lowered}
use Rattle.group_regroup.specs.Kept.{entries_from, eras_of}
use Rattle.group_regroup.proofs.Plain.{plain-after, plain-reads, plain-sets}
use Rattle.group_regroup.proofs.Renewed.{renewed}

module _ (w : World) (bases : Bases) (past : List (List Entry)) (l : List Lowered) (s : Dimensions) (has : HasRun w)
    (within : All (λ x. x.until ≤ length w.log) l) (limits : IsShape s)
    (reads : IsRunFrom w (reading w).events) (sets : IsRunFrom (opening s) (setting (opening s) (reading w).parcels)) where
  -- the old world once all items are read, and what is kept of it
  abbrev pub old : World
  old = world_after w (reading w).events

  abbrev pub new_bases : Bases
  new_bases = next_bases (eras_of old bases past l)

  abbrev pub new_past : List (List Entry)
  new_past = past ++ entries_from bases old.shape.k l 0 old.log ∷ []

  abbrev pub puts : List Event
  puts = setting (opening s) (reading w).parcels

  pub carried-over : eras_of (world_after (opening s) puts) new_bases new_past [] ≡ carried (eras_of w bases past l) s
  carried-over =
      plain-after new_bases new_past [] (opening s) puts (begun s limits) sets
      (plain-sets new_bases s.k (opening s) (reading w).parcels)
      (All-nil (λ (x : Lowered). x.until ≤ length (opening s).log))
      ∙ ap (λ (x : Eras). eras_after x puts) (sym (renewed old bases past l s))
      ∙ ap (λ (x : Eras). eras_after (next_era x s) puts)
      (plain-after bases past l w (reading w).events has reads (plain-reads bases w.shape.k w (loads w)) within)
