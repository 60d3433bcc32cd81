-- What is kept of an entry, and the entry that it stands for.
use Rattle.std.specs.Prelude.{◌≡◌, ℕ, ◌+◌, ◌*◌, List, [], ◌∷◌, None, Some}
use Rattle.packet_headers.specs.declared.items.LayerAt.{LayerAt}
use Rattle.packet_headers.specs.declared.stacks.Stack.{Stack}
use Rattle.packet_headers.specs.declared.stacks.Tags.TheVariants as tags
use Rattle.packet_headers.specs.declared.stacks.Network.TheVariants as network
use Rattle.packet_headers.specs.Key.{layers_of}
use Rattle.flow_actions.specs.declared.verdict.Verdict.{Verdict}
use Rattle.flow_calls.specs.declared.caller.Caller.{Caller}
use Rattle.flow_calls.specs.declared.parcel.Parcel.{Parcel}
use Rattle.adapter.specs.declared.kept.Steps.{Steps}
use Rattle.adapter.specs.declared.kept.Steps.TheVariants as steps
use Rattle.adapter.specs.declared.kept.Head.{Head}
use Rattle.adapter.specs.declared.kept.Plain.{Plain}
use Rattle.adapter.specs.declared.kept.Kept.{Kept}
use Rattle.adapter.specs.declared.kept.Kept.TheVariants as kept
use Rattle.flow_calls.specs.declared.entry.Entry.{Entry}
use Rattle.flow_calls.specs.declared.entry.Entry.TheVariants.{Asked, Passed}

-- the ids of a short way
abbrev pub ids_of : Steps → List ℕ
ids_of steps.None = []
ids_of (steps.One first) = first ∷ []
ids_of (steps.Two first second) = first ∷ second ∷ []

abbrev pub verdict_in : Head → Verdict
verdict_in head = record { fate = head.fate; mark = head.mark; hash = head.hash; path = record { items = ids_of head.steps } }

-- the entry of a frame of this key
abbrev pub entry_with : Head → List LayerAt → Entry
entry_with head key = Passed head.caller (record { number = head.number; key = key; len = head.len }) (verdict_in head)

-- the key of a frame without VXLAN
abbrev pub stack_key : Stack → List LayerAt
stack_key stack = layers_of (record { outer = Some stack; tunnel = None })

-- the headers of a frame with Ethernet and IPv4 alone
abbrev pub plain_stack : Plain → Stack
plain_stack p = record {
  eth = record { dst = p.dst_front * 65536 + p.dst_back; src = p.src_front * 65536 + p.src_back; ether_type = p.ether_type; has_vlan = p.has_vlan; offset = p.eth_offset };
  network = network.V4 p.network;
  tags = tags.None;
  transport = p.transport;
}

abbrev pub plain_key : Plain → List LayerAt
plain_key p = stack_key (plain_stack p)

abbrev pub entry_kept : Kept → Entry
entry_kept (kept.Asked asked) = Asked asked.value.caller asked.value.call asked.value.reply
entry_kept (kept.Plain plain) = entry_with plain.head (plain_key plain)
entry_kept (kept.Stacked head stack) = entry_with head (stack_key stack.value)
entry_kept (kept.Keyed head key) = entry_with head key.value
entry_kept (kept.Long long) = Passed long.value.caller long.value.parcel long.value.verdict

-- the head is that of this frame
abbrev pub IsHead : Caller → Parcel → Verdict → Head → Type 0
IsHead caller parcel verdict head = entry_with head parcel.key ≡ Passed caller parcel verdict

-- the frame has this head and this key
abbrev pub IsPlain : Head → List LayerAt → Plain → Type 0
IsPlain head key plain = (plain.head ≡ head) × (plain_key plain ≡ key)
