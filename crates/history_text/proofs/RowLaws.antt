-- Lists of rules with one text are one list.
use Rattle.std.proofs.Common.{◌≡◌, ◌≢◌, ℕ, List, [], ◌∷◌, ◌++◌, drop, codes, decimal, Some, refl, sym, ap, ◌∙◌, append_assoc}
use Rattle.std.specs.List.{flat_map}
use Rattle.std.proofs.NetLemmas.Numbers.{NoDigit}
use Rattle.packet_headers.specs.declared.items.ItemKind.{ItemKind}
use Rattle.packet_headers.specs.declared.items.ItemKind.TheVariants as items
use Rattle.flow_actions.specs.declared.action.ActionKind.{ActionKind}
use Rattle.flow_actions.specs.declared.action.ActionKind.TheVariants as actions
use Rattle.flow_calls.specs.declared.rows.ListRow.{ListRow}
use Rattle.history_text.specs.Forms.{filled}
use Rattle.history_text.specs.Rows.{item_text, action_text, row_text}
use Rattle.history_text.specs.Told.{RowIsTold, RowsAreTold}
use Rattle.history_text.proofs.Parts.{decimal-other, filled-same}
use Rattle.history_text.proofs.Words.{found, words-same}

abbrev all_items : List ItemKind
all_items = items.Void ∷ items.Eth ∷ items.Vlan ∷ items.Ipv4 ∷ items.Ipv6 ∷ items.Tcp ∷ items.Udp ∷ items.Vxlan ∷ []

item-found : (item : ItemKind) → found item_text all_items (item_text item) ≡ Some item
item-found items.Void = refl
item-found item = refl

abbrev all_actions : List ActionKind
all_actions = actions.Void ∷ actions.Queue ∷ actions.Rss ∷ actions.Drop ∷ actions.Jump ∷ actions.Mark ∷ actions.Count ∷ actions.Indirect ∷ actions.MacSrc ∷ actions.MacDst ∷ actions.Ipv4Src
    ∷ actions.Ipv4Dst ∷ actions.Ipv6Src ∷ actions.Ipv6Dst ∷ actions.PortSrc ∷ actions.PortDst ∷ actions.DecTtl ∷ actions.SetTtl ∷ actions.SetVid ∷ []

action-found : (action : ActionKind) → found action_text all_actions (action_text action) ≡ Some action
action-found actions.Void = refl
action-found action = refl

abbrev first : List ℕ → ℕ
first [] = 0
first (n ∷ ns) = n

row-is : (a b : ListRow) → a.id ≡ b.id → a.group ≡ b.group → a.priority ≡ b.priority → a.items.items ≡ b.items.items → a.actions.items ≡ b.actions.items → a ≡ b
row-is a b p q r s t =
    ap (λ x. record { id = x; group = a.group; priority = a.priority; items = a.items; actions = a.actions }) p
    ∙ ap (λ x. record { id = b.id; group = x; priority = a.priority; items = a.items; actions = a.actions }) q
    ∙ ap (λ x. record { id = b.id; group = b.group; priority = x; items = a.items; actions = a.actions }) r
    ∙ ap (λ x. record { id = b.id; group = b.group; priority = b.priority; items = record { items = x }; actions = a.actions }) s
    ∙ ap (λ x. record { id = b.id; group = b.group; priority = b.priority; items = b.items; actions = record { items = x } }) t

abbrev numbers_of : ListRow → List ℕ
numbers_of row = row.id ∷ row.group ∷ row.priority ∷ []

-- the names in a row, and what stands behind
abbrev names : ListRow → List ℕ → List ℕ
names row rest = flat_map item_text row.items.items ++ (codes "=>" ++ (flat_map action_text row.actions.items ++ rest))

row-text-is : (row : ListRow) (rest : List ℕ) → row_text row ++ rest ≡ filled (codes "\n0\t0\t0\ti--\t") (numbers_of row) ++ names row rest
row-text-is row rest =
    let actions = flat_map action_text row.actions.items in
    append_assoc (filled (codes "\n0\t0\t0\ti--\t") (numbers_of row)) (flat_map item_text row.items.items ++ (codes "=>" ++ actions)) rest
    ∙ ap (λ t. filled (codes "\n0\t0\t0\ti--\t") (numbers_of row) ++ t) (append_assoc (flat_map item_text row.items.items) (codes "=>" ++ actions) rest)

row-same : (a b : ListRow) (r s : List ℕ) → RowIsTold a → RowIsTold b → row_text a ++ 10 ∷ r ≡ row_text b ++ 10 ∷ s → (a ≡ b) × (r ≡ s)
row-same a b r s told told' e =
    let (numbers, words) = filled-same (codes "\n0\t0\t0\ti--\t") (numbers_of a) (numbers_of b) (names a (10 ∷ r)) (names b (10 ∷ s)) refl
    (told.id, (told.group, (told.priority, tt))) (told'.id, (told'.group, (told'.priority, tt))) tt tt
    (sym (row-text-is a (10 ∷ r)) ∙ e ∙ row-text-is b (10 ∷ s)) in
    let (its_items, behind) = words-same item_text all_items item-found a.items.items b.items.items _ _ refl refl words in
    let (its_actions, rests) = words-same action_text all_actions action-found a.actions.items b.actions.items (10 ∷ r) (10 ∷ s) refl refl (ap (drop 2) behind) in
    (row-is a b (ap first numbers) (ap (λ l. first (drop 1 l)) numbers) (ap (λ l. first (drop 2 l)) numbers) its_items its_actions, ap (drop 1) rests)

-- what stands behind the end of a line of which a list of rows, and then that end, are the front
abbrev behind_end : List ListRow → List ℕ → List ℕ
behind_end [] r = r
behind_end (row ∷ rows) r = drop 1 (row_text row ++ (flat_map row_text rows ++ 10 ∷ r))

rows-begin : (rows : List ListRow) (r : List ℕ) → flat_map row_text rows ++ 10 ∷ r ≡ 10 ∷ behind_end rows r
rows-begin [] r = refl
rows-begin (row ∷ rows) r = append_assoc (row_text row) (flat_map row_text rows) (10 ∷ r)

row-other : (row : ListRow) (r t : List ℕ) → RowIsTold row → NoDigit 10 r → 10 ∷ r ≢ row_text row ++ t
row-other row r t told stop e =
    let more = filled (codes "\t0\t0\ti--\t") (row.group ∷ row.priority ∷ []) in
    decimal-other row.id (more ++ names row t) r told.id stop
    (sym (ap (drop 1) (e ∙ row-text-is row t) ∙ append_assoc (decimal row.id) more (names row t)))

pub rows-same : (xs ys : List ListRow) (r s : List ℕ) → RowsAreTold xs → RowsAreTold ys → NoDigit 10 r → NoDigit 10 s
    → flat_map row_text xs ++ 10 ∷ r ≡ flat_map row_text ys ++ 10 ∷ s → (xs ≡ ys) × (r ≡ s)
rows-same [] [] r s told told' stop stop' e = (refl, ap (drop 1) e)
rows-same [] (y ∷ ys) r s told told' stop stop' e = absurd (row-other y r (flat_map row_text ys ++ 10 ∷ s) told'.0 stop (e ∙ append_assoc (row_text y) (flat_map row_text ys) (10 ∷ s)))
rows-same (x ∷ xs) [] r s told told' stop stop' e =
    absurd (row-other x s (flat_map row_text xs ++ 10 ∷ r) told.0 stop' (sym e ∙ append_assoc (row_text x) (flat_map row_text xs) (10 ∷ r)))
rows-same (x ∷ xs) (y ∷ ys) r s told told' stop stop' e =
    let (heads, ends) = row-same x y (behind_end xs r) (behind_end ys s) told.0 told'.0
    (ap (λ t. row_text x ++ t) (sym (rows-begin xs r)) ∙ sym (append_assoc (row_text x) (flat_map row_text xs) (10 ∷ r)) ∙ e
    ∙ append_assoc (row_text y) (flat_map row_text ys) (10 ∷ s) ∙ ap (λ t. row_text y ++ t) (rows-begin ys s)) in
    let (tails, rests) = rows-same xs ys r s told.1 told'.1 stop stop' (rows-begin xs r ∙ ap (λ t. 10 ∷ t) ends ∙ sym (rows-begin ys s)) in
    (ap (λ z. z ∷ xs) heads ∙ ap (λ l. y ∷ l) tails, rests)
