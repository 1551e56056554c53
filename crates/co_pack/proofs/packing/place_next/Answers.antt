-- Goals of `place_next` that the check left open.
use Rattle.std.proofs.Common.{◌≡◌, ◌-◌, ap, get_or, set, refl, ◌∙◌}
use Rattle.std.proofs.lemmas.List.{get_or_default}
use Rattle.co_pack.proofs.Placing.{is_next, is_room, still_within}
use Rattle.co_pack.specs.declared.packing.Place.{Place}
use Rattle.co_pack.proofs.packing.place_next.Goals as goal

pub returns-clause-next : goal.returns-clause-next
returns-clause-next c = λ places r.
    let read : c.index.result.now ≡ get_or c.room_for.new.rooms.items c.in_ok-bin.bin 0 = c.index.ensures ∙ get_or_default _ _ _ 0 c.in_ok-bin.ensures.within in
    let p : Place = record { bin = c.in_ok-bin.bin; offset = c.args.size - c.index.result.now; length = c.args.need } in (
      is_next c.args.size c.args.need places c.args.rooms.now.items c.room_for.new.rooms.items p r c.in_ok-bin.ensures.opened c.in_ok-bin.ensures.within c.in_ok-bin.ensures.fits refl
          (ap (λ x. c.args.size - x) read) c.in_ok-bin.ensures.first,
      is_room c.args.size c.args.need places c.args.rooms.now.items c.room_for.new.rooms.items p r c.in_ok-bin.ensures.opened c.in_ok-bin.ensures.within c.in_ok-bin.ensures.fits refl _
          (ap (λ x. set c.room_for.new.rooms.items c.in_ok-bin.bin (x - c.args.need)) (c.index_mut.ensures.value ∙ get_or_default _ _ _ 0 c.in_ok-bin.ensures.within)),
    )

pub returns-clause-within : goal.returns-clause-within
returns-clause-within c =
    still_within c.args.size c.args.need c.in_ok-bin.bin c.args.rooms.now.items c.room_for.new.rooms.items _ c.requires.within c.in_ok-bin.ensures.opened c.in_ok-bin.ensures.within
    (ap (λ x. set c.room_for.new.rooms.items c.in_ok-bin.bin (x - c.args.need)) (c.index_mut.ensures.value ∙ get_or_default _ _ _ 0 c.in_ok-bin.ensures.within))
