-- A sound row is an ascending log of at most 24 entries, and such a log in a row is sound.
use Rattle.std.proofs.Common.{◌≡◌, ℕ, ◌<◌, ◌≤◌, true, ltb, leb, [], ◌∷◌, sym, refl, subst, arith}
use Rattle.std.proofs.lemmas.List.{length-take}
use Rattle.std.proofs.lemmas.Bool.{and_parts, and_from, ltb-true, lt-ltb, leb-true, le-leb}
use Rattle.model.specs.Logs.{Log, Above, Ascending, put, remove}
use Rattle.model.proofs.LogLaws.{above_less, Sized, sized_put, sized_remove}
use Rattle.cell_log.specs.Rows.{entries_of, ascends_from, ascends, sound}
use Rattle.cell_log.specs.declared.row.LogRow.{LogRow}

from_ascends : (c : ℕ) (l : Log) → ascends_from c l ≡ true → Above c l × Ascending l
from_ascends c [] h = (tt, tt)
from_ascends c (e ∷ l) h =
    let p = and_parts (ltb c e.cell) (ascends_from e.cell l) h in
    let lt : c < e.cell = ltb-true c e.cell p.0 in
    let q = from_ascends e.cell l p.1 in
    ((lt, above_less c e.cell l (omega arith) q.0), q)

to_ascends : (c : ℕ) (l : Log) → Above c l → Ascending l → ascends_from c l ≡ true
to_ascends c [] h k = refl
to_ascends c (e ∷ l) h k =
    and_from (ltb c e.cell) (ascends_from e.cell l) (lt-ltb c e.cell h.0) (to_ascends e.cell l k.0 k.1)

pub ascends_ascending : (l : Log) → ascends l ≡ true → Ascending l
ascends_ascending [] h = tt
ascends_ascending (e ∷ l) h = from_ascends e.cell l h

pub ascending_ascends : (l : Log) → Ascending l → ascends l ≡ true
ascending_ascends [] h = refl
ascending_ascends (e ∷ l) h = to_ascends e.cell l h.0 h.1

pub sound_len : (r : LogRow) → sound r ≡ true → r.len ≤ 24
sound_len r h = leb-true r.len 24 (and_parts (leb r.len 24) (ascends (entries_of r)) h).0

pub sound_sized : (r : LogRow) → sound r ≡ true → Sized 24 (entries_of r)
sound_sized r h =
    let n = sound_len r h in
    (ascends_ascending (entries_of r) (and_parts (leb r.len 24) (ascends (entries_of r)) h).1, omega (arith, length-take r.len r.entries))

pub sized_sound : (r : LogRow) → r.len ≤ 24 → Ascending (entries_of r) → sound r ≡ true
sized_sound r n h = and_from (leb r.len 24) (ascends (entries_of r)) (le-leb r.len 24 n) (ascending_ascends (entries_of r) h)

pub put-sound : (r s : LogRow) (c n : ℕ) → sound r ≡ true → s.len ≤ 24 → entries_of s ≡ put (entries_of r) c n → sound s ≡ true
put-sound r s c n h w e = sized_sound s w (subst Ascending (sym e) (sized_put 24 c n (entries_of r) (sound_sized r h)).0)

pub remove-sound : (r s : LogRow) (c : ℕ) → sound r ≡ true → s.len ≤ 24 → entries_of s ≡ remove (entries_of r) c → sound s ≡ true
remove-sound r s c h w e = sized_sound s w (subst Ascending (sym e) (sized_remove 24 c (entries_of r) (sound_sized r h)).0)
