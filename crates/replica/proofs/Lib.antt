mod Entries
mod OwnIds
mod PathEdits
mod SharedEntries
mod Steps
mod WalkedLayers
