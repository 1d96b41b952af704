mod LinkReads
mod CountedWalks
mod NotedWalks
mod NearerNodes
mod LineNumbers
mod LinksOfWalks
mod Spelled
pub mod OneBoard
pub mod OneFault
