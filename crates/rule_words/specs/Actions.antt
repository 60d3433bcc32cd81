-- The actions of a rule: `{ ACTION "/" } "end"`, where an action is a word, and inside some actions stand values, each
-- behind its word, or lists. An action that rules share has its id right behind its word: `"indirect" ID`.
use Rattle.std.specs.Prelude.{ℕ, ◌+◌, ◌-◌, ◌<◌, ◌^◌, min, nat_lt, IfSome, List, [], ◌∷◌, ◌++◌, length, codes, bytes_eq, Option, None, Some, option_map, if◌then◌else◌}
use Rattle.packet_headers.specs.declared.edits.Edit.TheVariants as edits
use Rattle.flow_actions.specs.Kinds.{kind_of}
use Rattle.flow_actions.specs.declared.action.Action.{Action}
use Rattle.flow_actions.specs.declared.action.Action.TheVariants as actions
use Rattle.flow_actions.specs.declared.action.ActionKind.{ActionKind}
use Rattle.flow_actions.specs.declared.action.ActionKind.TheVariants as kinds
use Rattle.flow_actions.specs.declared.action.Actions.{Actions}
use Rattle.rule_words.specs.Vocabulary.{meaning_of}
use Rattle.rule_words.specs.declared.address.Address.TheVariants as address
use Rattle.rule_words.specs.declared.value.Form.{Form}
use Rattle.rule_words.specs.declared.value.Form.TheVariants as forms
use Rattle.rule_words.specs.Number.{first_number}
use Rattle.rule_words.specs.Value.{width_of, value_of}
use Rattle.rule_words.specs.Turns.{◌>>=◌, up_to}
use Rattle.rule_words.specs.RssLists.{all_types, unlisted, rss_setting}

-- the kind of action that a word begins
abbrev pub words : List (List ℕ × ActionKind)
words =
    (codes "void", kinds.Void)
    ∷ (codes "queue", kinds.Queue)
    ∷ (codes "rss", kinds.Rss)
    ∷ (codes "drop", kinds.Drop)
    ∷ (codes "jump", kinds.Jump)
    ∷ (codes "mark", kinds.Mark)
    ∷ (codes "count", kinds.Count)
    ∷ (codes "indirect", kinds.Indirect)
    ∷ (codes "set_mac_src", kinds.MacSrc)
    ∷ (codes "set_mac_dst", kinds.MacDst)
    ∷ (codes "set_ipv4_src", kinds.Ipv4Src)
    ∷ (codes "set_ipv4_dst", kinds.Ipv4Dst)
    ∷ (codes "set_ipv6_src", kinds.Ipv6Src)
    ∷ (codes "set_ipv6_dst", kinds.Ipv6Dst)
    ∷ (codes "set_tp_src", kinds.PortSrc)
    ∷ (codes "set_tp_dst", kinds.PortDst)
    ∷ (codes "dec_ttl", kinds.DecTtl)
    ∷ (codes "set_ttl", kinds.SetTtl)
    ∷ (codes "of_set_vlan_vid", kinds.SetVid)
    ∷ []

-- the word in front of the value of an action of a kind, and how the value is written
abbrev pub value_row : ActionKind → Option (List ℕ × Form)
value_row kinds.Void = None
value_row kinds.Queue = Some (codes "index", forms.Number 16)
value_row kinds.Rss = None
value_row kinds.Drop = None
value_row kinds.Jump = Some (codes "group", forms.Number 32)
value_row kinds.Mark = Some (codes "id", forms.Number 32)
value_row kinds.Count = None
value_row kinds.Indirect = None
value_row kinds.MacSrc = Some (codes "mac_addr", forms.Address address.Mac)
value_row kinds.MacDst = Some (codes "mac_addr", forms.Address address.Mac)
value_row kinds.Ipv4Src = Some (codes "ipv4_addr", forms.Address address.Ip4)
value_row kinds.Ipv4Dst = Some (codes "ipv4_addr", forms.Address address.Ip4)
value_row kinds.Ipv6Src = Some (codes "ipv6_addr", forms.Address address.Ip6)
value_row kinds.Ipv6Dst = Some (codes "ipv6_addr", forms.Address address.Ip6)
value_row kinds.PortSrc = Some (codes "port", forms.Number 16)
value_row kinds.PortDst = Some (codes "port", forms.Number 16)
value_row kinds.DecTtl = None
value_row kinds.SetTtl = Some (codes "ttl_value", forms.Number 8)
value_row kinds.SetVid = Some (codes "vlan_vid", forms.Number 16)

-- the action of a kind with a value; RSS is the one without a list, of all types
abbrev pub with_value : ActionKind → ℕ → Action
with_value kinds.Void value = actions.Void
with_value kinds.Queue value = actions.Queue value
with_value kinds.Rss value = actions.Rss (unlisted all_types)
with_value kinds.Drop value = actions.Drop
with_value kinds.Jump value = actions.Jump value
with_value kinds.Mark value = actions.Mark value
with_value kinds.Count value = actions.Count
with_value kinds.Indirect value = actions.Indirect value
with_value kinds.MacSrc value = actions.Set (edits.MacSrc value)
with_value kinds.MacDst value = actions.Set (edits.MacDst value)
with_value kinds.Ipv4Src value = actions.Set (edits.Ipv4Src value)
with_value kinds.Ipv4Dst value = actions.Set (edits.Ipv4Dst value)
with_value kinds.Ipv6Src value = actions.Set (edits.Ipv6Src value)
with_value kinds.Ipv6Dst value = actions.Set (edits.Ipv6Dst value)
with_value kinds.PortSrc value = actions.Set (edits.PortSrc value)
with_value kinds.PortDst value = actions.Set (edits.PortDst value)
with_value kinds.DecTtl value = actions.Set edits.DecTtl
with_value kinds.SetTtl value = actions.Set (edits.SetTtl value)
with_value kinds.SetVid value = actions.Set (edits.SetVid value)

-- the value of an action of a kind has no more bits than its form, and an id 16
abbrev pub FitsIn : ActionKind → ℕ → Type 0
FitsIn kinds.Indirect value = value < 2 ^ 16
FitsIn kind value = IfSome (value_row kind) (λ row. value < 2 ^ width_of row.1)

-- the action of a kind with the value that a word is, behind the word in front of it
abbrev pub with_word : ActionKind → List ℕ → List ℕ → Option Action
with_word kind name word = value_row kind >>= λ row. if bytes_eq name row.0 then option_map (with_value kind) (value_of row.1 word) else None

-- NAME VALUE: what the first words inside an action say where it has a value
abbrev pub value_setting : ActionKind → List (List ℕ) → Option (Action × List (List ℕ))
value_setting kind [] = None
value_setting kind (name ∷ []) = None
value_setting kind (name ∷ value ∷ rest) = option_map (λ after. (after, rest)) (with_word kind name value)

-- what the first words inside an action say
abbrev pub setting : Action → List (List ℕ) → Option (Action × List (List ℕ))
setting (actions.Rss rss) rest = option_map (λ read. (actions.Rss read.0, read.1)) (rss_setting rss rest)
setting a rest = value_setting (kind_of a) rest

abbrev pub no_actions : Actions
no_actions = record { list = record { items = [] }; more = 0 }

-- one more action: the first 16 are kept, and those behind them counted
abbrev pub with_action : Actions → Action → Actions
with_action actions a =
    if nat_lt (length actions.list.items) 16
    then record actions { list = record { items = actions.list.items ++ a ∷ [] } }
    else record actions { more = min (actions.more + 1) (2 ^ 16 - 1) }

-- the action of a kind before anything inside it is read, and the words behind: an action that rules share has its id
-- there, RSS has these types, and in the others what isn't named is 0
abbrev pub begun : ℕ → ActionKind → List (List ℕ) → Option (Action × List (List ℕ))
begun types kinds.Indirect rest = option_map (λ id. (with_value kinds.Indirect id.0, id.1)) (first_number 16 rest)
begun types kinds.Rss rest = Some (actions.Rss (unlisted types), rest)
begun types kind rest = Some (with_value kind 0, rest)

-- what stands behind the word of an action of a kind, up to its `/`
abbrev pub behind_word : ℕ → ActionKind → List (List ℕ) → Option (Action × List (List ℕ))
behind_word types kind rest = begun types kind rest >>= λ front. up_to (codes "/") setting front.0 front.1

-- ACTION "/", where RSS begins with these types
abbrev pub action_from : ℕ → List (List ℕ) → Option (Action × List (List ℕ))
action_from types [] = None
action_from types (word ∷ rest) = meaning_of words word >>= λ kind. behind_word types kind rest

-- ACTION "/" of a rule: where no type is named all count
abbrev pub action_of : List (List ℕ) → Option (Action × List (List ℕ))
action_of rest = action_from all_types rest

-- one more action
abbrev pub action_behind : Actions → List (List ℕ) → Option (Actions × List (List ℕ))
action_behind so_far rest = option_map (λ read. (with_action so_far read.0, read.1)) (action_of rest)

-- the actions that words make up to `end`, behind those so far, and the words behind it
abbrev pub actions_of : List (List ℕ) → Option (Actions × List (List ℕ))
actions_of rest = up_to (codes "end") action_behind no_actions rest
