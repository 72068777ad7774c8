-- What records fill: "one a record or id", and every byte of every prefix, key, path and name, "each occurrence counted".
use Rattle.std.specs.Prelude.{ℕ, ◌+◌, Bool, ◌&&◌, List, [], ◌∷◌, ◌++◌, leb, length}
use Rattle.keys.specs.Range.{Edge, unbounded, included, excluded}
use Rattle.records.specs.Model.{LastKey, unknown, known, Seen, all, only, View, Run, Tree, Segment, Borrow, Extractor, none, named, Manifest}
use Rattle.records.specs.declared.Fill.{Fill}

abbrev pub empty : Fill
empty = record { segments = 0; views = 0; runs = 0; borrows = 0; ids = 0; bytes = 0 }

abbrev pub plus : Fill → Fill → Fill
plus a b =
    record {
      segments = a.segments + b.segments;
      views = a.views + b.views;
      runs = a.runs + b.runs;
      borrows = a.borrows + b.borrows;
      ids = a.ids + b.ids;
      bytes = a.bytes + b.bytes;
    }

-- each number is at most the other's
unfoldable pub fits : Fill → Fill → Bool
fits a most =
    leb a.segments most.segments && leb a.views most.views && leb a.runs most.runs
    && leb a.borrows most.borrows && leb a.ids most.ids && leb a.bytes most.bytes

-- what each of some records fills, together
abbrev pub sum : {A : Type 0} → (A → Fill) → List A → Fill
sum f [] = empty
sum f (x ∷ xs) = plus (f x) (sum f xs)

abbrev pub bytes : ℕ → Fill
bytes n = record { segments = 0; views = 0; runs = 0; borrows = 0; ids = 0; bytes = n }

abbrev pub views : ℕ → Fill
views n = record { segments = 0; views = n; runs = 0; borrows = 0; ids = 0; bytes = 0 }

abbrev pub runs : ℕ → Fill
runs n = record { segments = 0; views = 0; runs = n; borrows = 0; ids = 0; bytes = 0 }

abbrev pub segments : ℕ → Fill
segments n = record { segments = n; views = 0; runs = 0; borrows = 0; ids = 0; bytes = 0 }

abbrev pub borrows : ℕ → Fill
borrows n = record { segments = 0; views = 0; runs = 0; borrows = n; ids = 0; bytes = 0 }

abbrev pub ids : ℕ → Fill
ids n = record { segments = 0; views = 0; runs = 0; borrows = 0; ids = n; bytes = 0 }

-- ---- the keys of a view, in order

abbrev pub last_keys : LastKey → List (List ℕ)
last_keys unknown = []
last_keys (known k) = k ∷ []

abbrev pub edge_keys : Edge → List (List ℕ)
edge_keys unbounded = []
edge_keys (included k) = k ∷ []
edge_keys (excluded k) = k ∷ []

abbrev pub seen_keys : Seen → List (List ℕ)
seen_keys all = []
seen_keys (only r) = edge_keys r.start ++ edge_keys r.end

-- "keys (bounds too)": the first key, the last if known, the visible range's
abbrev pub view_keys : View → List (List ℕ)
view_keys v = v.first ∷ (last_keys v.last ++ seen_keys v.visible)

-- ---- what each record fills

abbrev pub key_fill : List ℕ → Fill
key_fill k = bytes (length k)

unfoldable pub view_fill : View → Fill
view_fill v = plus (views 1) (sum key_fill (view_keys v))

unfoldable pub run_fill : Run → Fill
run_fill r = plus (runs 1) (sum view_fill r.views)

unfoldable pub tree_fill : Tree → Fill
tree_fill t = plus (sum view_fill t.l0) (sum run_fill t.runs)

unfoldable pub segment_fill : Segment → Fill
segment_fill s = plus (segments 1) (plus (key_fill s.prefix) (tree_fill s.tree))

unfoldable pub borrow_fill : Borrow → Fill
borrow_fill b = plus (borrows 1) (plus (key_fill b.path) (ids (length b.ids)))

abbrev pub name_keys : Extractor → List (List ℕ)
name_keys none = []
name_keys (named k) = k ∷ []

unfoldable pub manifest_fill : Manifest → Fill
manifest_fill m =
    plus (tree_fill m.tree) (plus (sum segment_fill m.segments) (plus (sum key_fill (name_keys m.extractor)) (sum borrow_fill m.borrows)))
