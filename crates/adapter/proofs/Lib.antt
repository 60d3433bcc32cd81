pub mod Bursts
pub mod CountsGrowth
pub mod SoundGrowth
pub mod TotalsGrowth
