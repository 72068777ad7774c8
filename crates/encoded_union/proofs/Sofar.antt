-- THE READING LOOP: all sources so far stand in the tables and are judged. Assumes nothing.
use Rattle.std.specs.Prelude.{Err, Ok, Result}
use Prim.Native.Nat.{ℕ, zero, suc, ◌+◌, ◌-◌, ◌*◌, ◌≤◌, ◌<◌}
use mathlib.Core.Path.{◌≡◌, refl, sym, ap, subst, ◌∙◌}
use mathlib.Core.Bool.{true, false}
use mathlib.Core.List.{List}
use native.Mathlib.Omega.{arith}
use native.Mathlib.Decide.{dec_lt}
use native.Mathlib.Numerals.{add-one}
use lib.ListN.{length}
use Rattle.ids.specs.declared.Uuid.{Uuid}
use Rattle.tables.specs.Layout.{write, up_to}
use Rattle.tables.proofs.Holds.{Holds}
use Rattle.tables.proofs.Writes.{write_length}
use Rattle.records.specs.Model.{Manifest}
use Rattle.records.specs.Fill.{plus, bytes, fits}
use Rattle.records.specs.Row.{at}
use Rattle.records.specs.Layout.{manifest_row_at, layout_at}
use Rattle.records.specs.Decode.{Lent, bytes_in, manifest_in}
use Rattle.records.specs.declared.Fill.{Fill}
use Rattle.records.specs.declared.Limits.{Limits}
use Rattle.records.specs.declared.ManifestRow.{ManifestRow}
use Rattle.records.specs.declared.Refusal.{Refusal}
use Rattle.measure.proofs.Fits.{under}
use Rattle.copy.specs.Copy.{room_of, laid_at, Outcome as Laid}
use Rattle.unite_sources.specs.Rows.{source_at_word, sources_in}
use Rattle.unite_judge.specs.Judging.{source_judged, sources_judged}
use Rattle.manifest_read.specs.Answer.{work_room}
use Rattle.manifest_read.proofs.Answers.{SameLong}
use Rattle.encoded.specs.Encoded.{Encoded, holds, refused, encoded_of}
use Rattle.standing.proofs.Reading.{read_into, Accepted, accepted_is, accepted_judged, read_accepted, read_roomy, accepted_stays}
use Rattle.encoded_union.specs.Union.{start_of, piece_of, some_bad, manifest_of, bare_of, source_of, sources_of, behind}
use Rattle.encoded_union.specs.Steps.{place_of, source_words, Step, source_into, Gathered}
use Rattle.encoded_union.proofs.Rows.{holds_written, holds_before, part_front, source_wide, made, row_judged, row_source}
use Rattle.encoded_union.proofs.Gather.{behind_more, behind_under, behind_fits, behind_behind, all_read, one_unread, good_piece, paths_fit}

up_to_same : {A : Type 0} (f g : ℕ → A) (n : ℕ) → ((i : ℕ) → i < n → f i ≡ g i) → up_to f n ≡ up_to g n
up_to_same f g zero h = refl
up_to_same f g (suc n) h = rw (up_to_same f g n (λ i l. h i (omega arith)), h n (omega arith))

module _ (lim : Limits) (s ends paths path_ends checkpoints : List ℕ) where
  -- where the i-th source is laid
  abbrev cursor : ℕ → Fill
  cursor i = behind lim.fill (bytes (length paths)) i

  abbrev uuid : ℕ → Uuid
  uuid i = (at checkpoints (i * 2), at checkpoints (i * 2 + 1))

  pub record Stood (i : ℕ) (l : Lent) (t : List ℕ) : Type 0 where
    pub row : ManifestRow
    pub ok : Accepted lim (piece_of s ends i) (cursor i) row l
    pub words : Holds t (i * 22) (source_words row (place_of path_ends i) (uuid i))

  pub record Sofar (n k : ℕ) (c room : Fill) (w l : Lent) (t : List ℕ) : Type 0 where
    pub within : k ≤ n
    pub here : c ≡ cursor k
    pub work : fits lim.fill (work_room lim w) ≡ true
    pub fit : fits (cursor n) room ≡ true
    pub same : room_of l ≡ room
    pub front : Holds l.pool 0 paths
    pub wide : n * 22 ≤ length t
    pub each : (i : ℕ) → i < k → Stood i l t

  -- what a step that is done leaves
  record Laying (c : Fill) (l l' : Lent) (t t' : List ℕ) (k : ℕ) : Type 0 where
    pub value : Manifest
    pub is : encoded_of lim (piece_of s ends k) ≡ holds value
    pub out : l' ≡ laid_at c l (layout_at c value)
    pub rows : t' ≡ write t (k * 22) (source_words (manifest_row_at c value) (place_of path_ends k) (uuid k))

  module _ (n k : ℕ) (c room : Fill) (w l : Lent) (t : List ℕ) (g : Sofar n k c room w l t) where
    module _ (h : k < n) where
      pub room_next : fits (plus c lim.fill) room ≡ true
      room_next = rw g.here (behind_fits lim.fill (bytes (length paths)) k n room h g.fit)

      pub room_here : fits (plus c lim.fill) (room_of l) ≡ true
      room_here = rw g.same room_next

      module _ (r : Result Unit Refusal) (l' : Lent) (t' : List ℕ) (e : record { answer = r; out = l'; rows = t' } ≡ source_into c l t (k * 22) (place_of path_ends k) (uuid k) (encoded_of lim (piece_of s ends k))) where
        laying : r ≡ Ok tt → Laying c l l' t t' k
        laying f = go (encoded_of lim (piece_of s ends k)) refl e
          where
            go : (y : Encoded) → encoded_of lim (piece_of s ends k) ≡ y → record { answer = r; out = l'; rows = t' } ≡ source_into c l t (k * 22) (place_of path_ends k) (uuid k) y → Laying c l l' t t' k
            go (holds m) i q = record { value = m; is = i; out = ap (λ (x : Step). x.out) q; rows = ap (λ (x : Step). x.rows) q }
            go (refused y) i q = let u : Ok tt ≡ Err y = sym f ∙ ap (λ (x : Step). x.answer) q in let z : ◌≡◌ {A = ℕ} 0 1 = cc in absurd (omega arith)

        refusing : (x : Refusal) → r ≡ Err x → encoded_of lim (piece_of s ends k) ≡ refused x
        refusing x f = go (encoded_of lim (piece_of s ends k)) e
          where
            go : (y : Encoded) → record { answer = r; out = l'; rows = t' } ≡ source_into c l t (k * 22) (place_of path_ends k) (uuid k) y → y ≡ refused x
            go (holds m) q = let u : Err x ≡ (Ok tt) = sym f ∙ ap (λ (x : Step). x.answer) q in let z : ◌≡◌ {A = ℕ} 0 1 = cc in absurd (omega arith)
            go (refused y) q = let u : Err x ≡ Err y = sym f ∙ ap (λ (x : Step). x.answer) q in let z : y ≡ x = cc in ap refused z

        pub stop : (x : Refusal) → r ≡ Err x → Gathered lim s ends paths path_ends checkpoints n (Err x) l' t'
        stop x f refuse given = one_unread lim s ends refuse n k h (λ i q. ((g.each i q).ok.value, (g.each i q).ok.is)) x (refusing x f) given

        module _ (f : r ≡ Ok tt) where
          row : ManifestRow
          row = manifest_row_at c (laying f).value

          read : ◌≡◌ {A = Laid} (record { answer = Ok (manifest_row_at c (laying f).value); out = l' }) (read_into c l (encoded_of lim (piece_of s ends k)))
          read =
              ap (λ (x : Lent). record { answer = Ok (manifest_row_at c (laying f).value); out = x }) (laying f).out
              ∙ ap (read_into c l) (sym (laying f).is)

          same_room : room_of l' ≡ room_of l
          same_room = read_roomy lim (piece_of s ends k) c l l' (Ok (manifest_row_at c (laying f).value)) read room_here (manifest_row_at c (laying f).value) refl

          first : k * 22 + 22 ≤ length t
          first = omega (arith, g.wide, h)

          new : Stood k l' t'
          new =
              record {
                row = manifest_row_at c (laying f).value;
                ok =
                    subst (λ (x : Fill). Accepted lim (piece_of s ends k) x (manifest_row_at c (laying f).value) l') g.here
                    (read_accepted lim (piece_of s ends k) c l l' (Ok (manifest_row_at c (laying f).value)) read room_here (manifest_row_at c (laying f).value) refl);
                words =
                    subst (λ (x : List ℕ). Holds x (k * 22) (source_words (manifest_row_at c (laying f).value) (place_of path_ends k) (uuid k))) (sym (laying f).rows)
                    (holds_written t (k * 22) (source_words (manifest_row_at c (laying f).value) (place_of path_ends k) (uuid k)) (omega (arith, first)));
              }

          old : (i : ℕ) → i < k → Stood i l' t'
          old i q =
              let a = g.each i q in
              record {
                row = a.row;
                ok =
                    accepted_stays lim (piece_of s ends k) c l l' (Ok (manifest_row_at c (laying f).value)) read room_here (manifest_row_at c (laying f).value) refl (piece_of s ends i) (cursor i) a.row
                    (subst (λ (x : Fill). fits (plus (cursor i) lim.fill) x ≡ true) (sym g.here) (behind_behind lim.fill (bytes (length paths)) i k q)) a.ok;
                words =
                    subst (λ (x : List ℕ). Holds x (i * 22) (source_words a.row (place_of path_ends i) (uuid i))) (sym (laying f).rows)
                    (holds_before t (i * 22) (source_words a.row (place_of path_ends i) (uuid i)) (k * 22) (source_words (manifest_row_at c (laying f).value) (place_of path_ends k) (uuid k)) (omega (arith, source_wide a.row (place_of path_ends i) (uuid i), q)) (omega (arith, first)) a.words);
              }

          paths_stay : Holds l'.pool 0 paths
          paths_stay =
              let u = under (plus c lim.fill) (room_of l) room_here in
              let v = behind_under lim.fill (bytes (length paths)) k in
              let x : length paths ≤ c.bytes = rw g.here v.bytes in
              subst (λ (y : List ℕ). Holds y 0 paths) (sym (ap (λ (y : Lent). y.pool) (laying f).out))
              (holds_before l.pool 0 paths c.bytes (layout_at c (laying f).value).pool (omega (arith, x)) (omega (arith, u.bytes)) g.front)

          pub again : (c' : Fill) (w' : Lent) → c' ≡ plus c lim.fill → SameLong w w' → Sofar n (k + 1) c' room w' l' t'
          again c' w' ec m =
              rw (add-one k)
              (record {
                within = omega arith;
                here = ec ∙ ap (λ (x : Fill). plus x lim.fill) g.here ∙ sym (behind_more lim.fill (bytes (length paths)) k);
                work = rw (m.segments, m.views, m.runs, m.borrows, m.ids) g.work;
                fit = g.fit;
                same = same_room ∙ g.same;
                front = paths_stay;
                wide = omega (arith, g.wide, ap length (laying f).rows, write_length t (k * 22) (source_words (manifest_row_at c (laying f).value) (place_of path_ends k) (uuid k)) (omega (arith, first, source_wide (manifest_row_at c (laying f).value) (place_of path_ends k) (uuid k))));
                each =
                    λ i q.
                    elim (dec_lt i k) [
                      | yes b ↦ old i b
                      | no b ↦ (let z : k ≡ i = omega arith in subst (λ (x : ℕ). Stood x l' t') z new)
                    ];
              })

    -- ---- at the end

    judged_upto : (j : ℕ) → j ≤ k → sources_judged lim l t j ≡ Ok tt
    judged_upto zero q = refl
    judged_upto (suc j) q =
        let a = g.each j (omega arith) in
        let v : source_judged lim l t (j * 22) ≡ (Ok tt) = row_judged t (j * 22) a.row (place_of path_ends j) (uuid j) a.words lim l ∙ accepted_judged lim (piece_of s ends j) (cursor j) a.row l a.ok in
        rw (judged_upto j (omega arith), v)

    module _ (h : n ≤ k) (bad : some_bad lim.path (length paths) path_ends n ≡ false) where
      source_is : (i : ℕ) → i < n → source_at_word l t (i * 22) ≡ source_of lim s ends paths path_ends checkpoints i
      unfolding source_of
      source_is i q =
          let a = g.each i (omega arith) in
          let b = good_piece lim.path (length paths) path_ends n i bad q in
          let m : manifest_in l a.row ≡ manifest_of (encoded_of lim (piece_of s ends i)) = sym (ap manifest_of (accepted_is lim (piece_of s ends i) (cursor i) a.row l a.ok)) in
          let p : bytes_in l.pool (place_of path_ends i) ≡ piece_of paths path_ends i =
          ap (λ (x : List ℕ). bytes_in x (place_of path_ends i)) g.front.is
          ∙ part_front paths g.front.behind (start_of path_ends i) (at path_ends i - start_of path_ends i) (omega (arith, b.rises, b.inside)) in
          row_source t (i * 22) a.row (place_of path_ends i) (uuid i) a.words l
          ∙ ap (λ (x : Manifest). made l (bare_of x) (place_of path_ends i) (uuid i)) m
          ∙ ap (λ (x : List ℕ). record { manifest = bare_of (manifest_of (encoded_of lim (piece_of s ends i))); path = x; checkpoint = uuid i }) p

      pub whole : Gathered lim s ends paths path_ends checkpoints n (Ok tt) l t
      unfolding sources_in sources_of
      whole =
          let z : k ≡ n = omega (arith, g.within) in (
            judged_upto n (omega arith),
            up_to_same (λ i. source_at_word l t (i * 22)) (λ i. source_of lim s ends paths path_ends checkpoints i) n source_is,
            λ refuse given. all_read lim s ends refuse n (λ i q. ((g.each i (omega arith)).ok.value, (g.each i (omega arith)).ok.is)) given,
          )

    -- a source is called for as its part asks
    pub ready : k < n → some_bad 0x1_0000 (length s) ends n ≡ false → some_bad lim.path (length paths) path_ends n ≡ false
        → (start_of ends k ≤ at ends k) × (at ends k - start_of ends k ≤ 0x1_0000) × (start_of path_ends k ≤ at path_ends k) × (k * 22 + 22 ≤ length t)
    ready h b p =
        let x = good_piece 0x1_0000 (length s) ends n k b h in
        let y = good_piece lim.path (length paths) path_ends n k p h in
        (x.rises, x.short, y.rises, omega (arith, g.wide, h))

  -- before the first
  pub none_yet : (n m : ℕ) (w l : Lent) (pool t : List ℕ) → m ≡ 0 + length paths → fits lim.fill (work_room lim w) ≡ true → fits (cursor n) (room_of l) ≡ true → pool ≡ write l.pool 0 paths → n * 22 ≤ length t
      → Sofar n 0 (bytes m) (room_of l) w (record { segments = l.segments; views = l.views; runs = l.runs; borrows = l.borrows; ids = l.ids; pool = pool }) t
  unfolding behind
  none_yet n m w l pool t em kw ko ep wide =
      let fit : 0 + length paths ≤ length l.pool = paths_fit lim.fill (length paths) n (room_of l) ko in
      let long : length pool ≡ length l.pool = ap length ep ∙ write_length l.pool 0 paths fit in
      let z : m ≡ length paths = omega arith in
      record {
        within = omega arith;
        here = ap bytes z;
        work = kw;
        fit = ko;
        same = rw long;
        front = subst (λ (y : List ℕ). Holds y 0 paths) (sym ep) (holds_written l.pool 0 paths (omega arith));
        wide = wide;
        each = λ i q. absurd (omega arith);
      }

-- every lent slice is as long as before
pub record Sized (w w₀ l l₀ : Lent) (t t₀ : List ℕ) : Type 0 where
  pub segments : length w.segments ≡ length w₀.segments
  pub views : length w.views ≡ length w₀.views
  pub runs : length w.runs ≡ length w₀.runs
  pub borrows : length w.borrows ≡ length w₀.borrows
  pub ids : length w.ids ≡ length w₀.ids
  pub all_segments : length l.segments ≡ length l₀.segments
  pub all_views_lem : length l.views ≡ length l₀.views
  pub all_runs : length l.runs ≡ length l₀.runs
  pub all_borrows : length l.borrows ≡ length l₀.borrows
  pub all_ids : length l.ids ≡ length l₀.ids
  pub all_pool : length l.pool ≡ length l₀.pool
  pub rows : length t ≡ length t₀

pub sized_self : (w l : Lent) (t : List ℕ) → Sized w w l l t t
sized_self w l t =
    record { segments = refl; views = refl; runs = refl; borrows = refl; ids = refl; all_segments = refl; all_views_lem = refl; all_runs = refl; all_borrows = refl; all_ids = refl; all_pool = refl; rows = refl }

pub sized_more : (w₁ w w₀ l₁ l l₀ : Lent) (t₁ t t₀ : List ℕ) → Sized w₁ w l₁ l t₁ t → Sized w w₀ l l₀ t t₀ → Sized w₁ w₀ l₁ l₀ t₁ t₀
sized_more w₁ w w₀ l₁ l l₀ t₁ t t₀ a b =
    record {
      segments = a.segments ∙ b.segments;
      views = a.views ∙ b.views;
      runs = a.runs ∙ b.runs;
      borrows = a.borrows ∙ b.borrows;
      ids = a.ids ∙ b.ids;
      all_segments = a.all_segments ∙ b.all_segments;
      all_views_lem = a.all_views_lem ∙ b.all_views_lem;
      all_runs = a.all_runs ∙ b.all_runs;
      all_borrows = a.all_borrows ∙ b.all_borrows;
      all_ids = a.all_ids ∙ b.all_ids;
      all_pool = a.all_pool ∙ b.all_pool;
      rows = a.rows ∙ b.rows;
    }
